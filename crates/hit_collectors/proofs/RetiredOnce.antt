-- In a list of boxes the first one of a name is one box or none, and without it one list is left.
use Rattle.std.proofs.Common.{◌≡◌, ◌≢◌, ◌⊎◌, inl, inr, ℕ, List, [], ◌∷◌, ◌++◌, length, length-append, refl, sym, ap, ◌∙◌, subst, arith}
use Rattle.std.specs.Prelude.{All}
use Rattle.std.proofs.Math.Seq.{get_or-append_seam}
use Rattle.std.proofs.lemmas.Bool.{cases_eq}
use Rattle.std.proofs.lemmas.List.Elements.{All-cons, All-head, All-nil, All-tail}
use Rattle.hit_collectors.specs.Boxes.{IsRetired}

same_or_not : (a b : List ℕ) → (a ≡ b) ⊎ (a ≢ b)
same_or_not [] [] = inl refl
same_or_not [] (y ∷ b) = inr (λ e. cc)
same_or_not (x ∷ a) [] = inr (λ e. cc)
same_or_not (x ∷ a) (y ∷ b) = elim (cases_eq x y) [
  | inr other ↦ inr (λ e. other (cc))
  | inl same ↦ elim (same_or_not a b) [
    | inl rest ↦ inl (cc)
    | inr other ↦ inr (λ e. other (cc))
  ]
]

module _ {A : Type 0} (named : A → List ℕ) (name : List ℕ) where
  one_left : (e f l m : List A) (r s : A) → e ++ r ∷ l ≡ f ++ s ∷ m → named r ≡ name → named s ≡ name →
      All (λ box. named box ≢ name) e → All (λ box. named box ≢ name) f → e ++ l ≡ f ++ m
  one_left [] [] l m r s same r_named s_named before_r before_s = cc
  one_left [] (y ∷ f) l m r s same r_named s_named before_r before_s =
      let heads : r ≡ y = cc in
      absurd (All-head (λ box. named box ≢ name) y f before_s (ap named (sym heads) ∙ r_named))
  one_left (x ∷ e) [] l m r s same r_named s_named before_r before_s =
      let heads : x ≡ s = cc in
      absurd (All-head (λ box. named box ≢ name) x e before_r (ap named heads ∙ s_named))
  one_left (x ∷ e) (y ∷ f) l m r s same r_named s_named before_r before_s =
      let heads : x ≡ y = cc in
      let rest = one_left e f l m r s (cc) r_named s_named (All-tail (λ box. named box ≢ name) x e before_r) (All-tail (λ box. named box ≢ name) y f before_s) in
      λ i. heads i ∷ rest i

  pub one_retired : (old a b : List A) → IsRetired named name old a → IsRetired named name old b → a ≡ b
  one_retired old a b first second =
      first.others
      ∙ one_left first.earlier second.earlier first.later second.later first.retired second.retired (sym first.boxes ∙ second.boxes)
      first.is_named second.is_named first.is_first second.is_first
      ∙ sym second.others

  pub none_retired : (old new : List A) → All (λ box. named box ≢ name) old → IsRetired named name old new → ⊥
  none_retired old new none retired =
      let all = subst (λ boxes. All (λ box. named box ≢ name) boxes) retired.boxes none in
      all (length retired.earlier) retired.retired (omega (arith, length-append retired.earlier (retired.retired ∷ retired.later)))
      (ap named (get_or-append_seam retired.earlier retired.retired retired.later retired.retired) ∙ retired.is_named)

  pub some_retired : (old : List A) → All (λ box. named box ≢ name) old ⊎ ((new : List A) × IsRetired named name old new)
  some_retired [] = inl (All-nil (λ box. named box ≢ name))
  some_retired (x ∷ old) = elim (same_or_not (named x) name) [
    | inl same ↦ inr (old, record { earlier = []; retired = x; later = old; boxes = refl; is_named = same; is_first = All-nil (λ box. named box ≢ name); others = refl })
    | inr other ↦ elim (some_retired old) [
      | inl none ↦ inl (All-cons (λ box. named box ≢ name) x old other none)
      | inr (new, rest) ↦ inr (
        x ∷ new,
        record {
          earlier = x ∷ rest.earlier;
          retired = rest.retired;
          later = rest.later;
          boxes = ap (λ boxes. x ∷ boxes) rest.boxes;
          is_named = rest.is_named;
          is_first = All-cons (λ box. named box ≢ name) x rest.earlier other rest.is_first;
          others = ap (λ boxes. x ∷ boxes) rest.others;
        },
      )
    ]
  ]
