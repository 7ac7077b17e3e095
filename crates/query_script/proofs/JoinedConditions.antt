-- Conditions that are read one after the other.
use Rattle.std.proofs.Common.{◌≡◌, ◌≢◌, ◌∙◌, ◌++◌, ℕ, List, [], ◌∷◌, codes, refl, sym, ap, subst, inl, inr, append_assoc}
use Rattle.std.proofs.lemmas.List.{append-nil}
use Rattle.info_filter.specs.declared.condition.Condition.{Condition}
use Rattle.query_script.specs.declared.word.Word.{Word}
use Rattle.query_script.specs.Conditions.{AreConditions, IsCondition}
use Rattle.query_script.specs.Conditions.AreConditions.{nothing, one_more}
use Rattle.query_script.specs.Words.{bare}
use Rattle.query_script.proofs.ToldConditions.{condition_once, joined_more, joined_three}

-- The words are those of these conditions, behind `where`, and those of others, behind this joining word.
pub record AreConditionsTo (words : List Word) (conditions : List Condition) (joining : List ℕ) (rest : List Word) : Type 0 where
  pub more : (others : List Condition) → AreConditions joining others rest → AreConditions (codes "where") (conditions ++ others) words
  pub only : (all : List Condition) → AreConditions (codes "where") all words → (others : List Condition) × (all ≡ conditions ++ others) × AreConditions joining others rest

pub AreConditionsTo-start : (words : List Word) → AreConditionsTo words [] (codes "where") words
AreConditionsTo-start words = record {
  more = λ others joined. joined;
  only = λ all joined. (all, refl, joined);
}

module _ (words : List Word) (conditions : List Condition) (joining : List ℕ) (rest : List Word) (h : AreConditionsTo words conditions joining rest) where
  -- one condition more
  pub AreConditionsTo-more : (c : Condition) (kind value : Word) (behind : List Word) → rest ≡ bare joining ∷ kind ∷ value ∷ behind → IsCondition c kind value →
      AreConditionsTo words (conditions ++ c ∷ []) (codes "and") behind
  AreConditionsTo-more c kind value behind is spelled = record {
    more = λ others joined.
        subst (λ l. AreConditions (codes "where") l words) (sym (append_assoc conditions (c ∷ []) others))
        (h.more (c ∷ others) (subst (AreConditions joining (c ∷ others)) (sym is) (one_more c kind value spelled joined)));
    only = λ all joined.
        let (others, same, behind_joined) = h.only all joined in
        let more = joined_more joining others rest (bare joining) kind value behind is behind_joined in
        let whole : all ≡ (conditions ++ c ∷ []) ++ more.others =
        same
        ∙ ap (λ l. conditions ++ l) (more.all ∙ ap (λ x. x ∷ more.others) (condition_once kind value more.first c more.spelled spelled))
        ∙ sym (append_assoc conditions (c ∷ []) more.others) in
        (more.others, whole, more.joined);
  }

  -- no condition where some word is left
  pub AreConditionsTo-none : rest ≢ [] → ((c : Condition) (kind value : Word) (behind : List Word) → rest ≡ bare joining ∷ kind ∷ value ∷ behind → ¬ IsCondition c kind value) →
      (all : List Condition) → ¬ AreConditions (codes "where") all words
  AreConditionsTo-none some never all joined =
      let (others, same, behind_joined) = h.only all joined in
      elim (joined_three joining others rest behind_joined) [
        | inl (_, none) ↦ some none
        | inr (w, kind, value, behind, is) ↦
            let more = joined_more joining others rest w kind value behind is behind_joined in
            never more.first kind value behind (is ∙ ap (λ v. v ∷ kind ∷ value ∷ behind) more.name) more.spelled
      ]

  -- no word is left
  pub AreConditionsTo-end : rest ≡ [] → AreConditions (codes "where") conditions words
  AreConditionsTo-end none =
      subst (λ l. AreConditions (codes "where") l words) (append-nil conditions) (h.more [] (subst (AreConditions joining []) (sym none) nothing))
