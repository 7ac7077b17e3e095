-- A hit raises one number in room that may be greater than its kind needs.
use Rattle.std.proofs.Common.{◌≡◌, ℕ, ◌<◌, List, [], ◌∷◌, take, get_or, set, slice_set, sym, ap, ◌∙◌}
use Rattle.std.proofs.Math.Seq.{take-set-lt}
use Rattle.std.proofs.lemmas.List.{get_or-take}
use Rattle.pattern_images.specs.declared.hit.Hit.{Hit}
use Rattle.hit_collectors.specs.declared.kind.Kind.{Kind}
use Rattle.hit_collectors.specs.Tallies.{BoxTally, counted_by, raised, number_count, with_hits}
use Rattle.hit_collectors.proofs.Counts.{numbers_one}

-- what a box of this name and kind tells
abbrev pub told_as : List ℕ → Kind → List ℕ → BoxTally
told_as name kind numbers = record { name = name; kind = kind; numbers = numbers }

pub hit_taken : (name : List ℕ) (kind : Kind) (hit : Hit) (numbers : List ℕ) (i up : ℕ) →
    i ≡ counted_by kind hit → i < number_count kind → up ≡ raised (get_or numbers i 0) 1 →
    told_as name kind (take (number_count kind) (slice_set numbers i up)) ≡ with_hits (hit ∷ []) (told_as name kind (take (number_count kind) numbers))
hit_taken name kind hit numbers i up is below raises =
    let n = number_count kind in
    ap (λ (told : List ℕ). told_as name kind told)
    (take-set-lt n numbers i up below
    ∙ ap (set (take n numbers) i) (raises ∙ ap (λ (m : ℕ). raised m 1) (sym (get_or-take n numbers i 0 below)))
    ∙ ap (λ (k : ℕ). set (take n numbers) k (raised (get_or (take n numbers) k 0) 1)) is
    ∙ sym (numbers_one kind hit (take n numbers)))
