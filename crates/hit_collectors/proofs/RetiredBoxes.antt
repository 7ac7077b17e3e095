-- The first box of a name is taken out.
use Rattle.std.proofs.Common.{◌≡◌, ℕ, suc, ◌+◌, List, ◌≢◌, ◌∷◌, ◌++◌, map, take, drop, get_or, ap, ◌∙◌, subst, arith}
use Rattle.std.proofs.Math.Seq.{split_at}
use Rattle.std.proofs.lemmas.List.{map-append}
use Rattle.std.proofs.lemmas.List.Elements.{All-map}
use Rattle.hit_collectors.specs.Boxes.{IsRetired}
use Rattle.hit_collectors.specs.Finding.{IsFirstNamed}

pub first_retired : {A : Type 0} (named : A → List ℕ) (name : List ℕ) (seen old new : List A) (i : ℕ) (box : A) → seen ≡ old →
    IsFirstNamed named name seen i → new ≡ take i old ++ drop (i + 1) old → IsRetired named name old new
first_retired named name seen old new i box same first rest = let found = subst (λ boxes. IsFirstNamed named name boxes i) same first in record {
  earlier = take i old;
  retired = get_or old i box;
  later = drop (suc i) old;
  boxes = split_at old i box found.within;
  is_named = found.is_named box;
  is_first = found.is_first;
  others = let next : i + 1 ≡ suc i = omega arith in rest ∙ ap (λ (n : ℕ). take i old ++ drop n old) next;
}

-- the same of what each box shows, where that has its name
pub retired_shown : {A B : Type 0} (named : B → List ℕ) (show : A → B) (name : List ℕ) (old new : List A) →
    IsRetired (λ (box : A). named (show box)) name old new → IsRetired named name (map show old) (map show new)
retired_shown named show name old new retired = record {
  earlier = map show retired.earlier;
  retired = show retired.retired;
  later = map show retired.later;
  boxes = ap (map show) retired.boxes ∙ map-append show retired.earlier (retired.retired ∷ retired.later);
  is_named = retired.is_named;
  is_first = All-map (λ box. named box ≢ name) show retired.earlier retired.is_first;
  others = ap (map show) retired.others ∙ map-append show retired.earlier retired.later;
}
