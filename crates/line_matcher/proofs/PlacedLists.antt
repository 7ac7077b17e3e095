-- Occurrences with the places of their placements.
use Rattle.std.proofs.Common.{◌≡◌, ℕ, ◌+◌, ◌<◌, inl, inr, List, [], ◌∷◌, ◌++◌, length, get_or, refl, sym, ap, ◌∙◌, arith, subst}
use Rattle.std.proofs.lemmas.Bool.{cases_lt}
use Rattle.std.proofs.lemmas.List.{length_push, get_or_append_left, get_or_push}
use Rattle.pattern_images.specs.declared.hit.Found.{Found}
use Rattle.pattern_images.specs.Placements.{Placement}
use Rattle.pattern_occurrences.specs.declared.occurrence.Occurrence.{Occurrence}
use Rattle.line_matcher.specs.FoundOccurrences.{AreFound, IsOccurrence}

-- what was found is the first so many of the occurrences
pub record AreFoundTo (placements : List Placement) (occurrences : List Occurrence) (n : ℕ) (found : List Found) : Type 0 where
  pub count : length found ≡ n
  pub each : (k : ℕ) (o : Occurrence) (f : Found) → k < n → IsOccurrence placements (get_or occurrences k o) (get_or found k f)

module _ (placements : List Placement) (occurrences : List Occurrence) where
  pub AreFoundTo-start : AreFoundTo placements occurrences 0 []
  AreFoundTo-start = record { count = refl; each = λ k o f lt. absurd (omega arith) }

  pub AreFoundTo-more : (n : ℕ) (found now : List Found) (f : Found) → AreFoundTo placements occurrences n found → ((o : Occurrence) → IsOccurrence placements (get_or occurrences n o) f) → now ≡ found ++ f ∷ [] →
      AreFoundTo placements occurrences (n + 1) now
  AreFoundTo-more n found now f are is pushed = record {
    count = ap length pushed ∙ length_push found f ∙ ap (λ (i : ℕ). i + 1) are.count;
    each = λ k o e lt. subst (λ (fs : List Found). IsOccurrence placements (get_or occurrences k o) (get_or fs k e)) (sym pushed) (elim (cases_lt k n) [
      | inl below ↦ subst (IsOccurrence placements (get_or occurrences k o)) (sym (get_or_append_left found (f ∷ []) e k (omega (arith, are.count)))) (are.each k o e below)
      | inr last ↦
          let here : n ≡ k = omega arith in
          subst (IsOccurrence placements (get_or occurrences k o)) (sym (get_or_push found f e k (are.count ∙ here))) (subst (λ (i : ℕ). IsOccurrence placements (get_or occurrences i o) f) here (is o))
    ]);
  }

  pub AreFoundTo-all : (n : ℕ) (found : List Found) → n ≡ length occurrences → AreFoundTo placements occurrences n found → AreFound placements occurrences found
  AreFoundTo-all n found e are = record { same_length = are.count ∙ e; each = λ k o f lt. are.each k o f (omega arith) }
