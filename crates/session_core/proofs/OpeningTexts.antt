-- The text of openings, from what was printed.
use Rattle.std.proofs.Common.{◌≡◌, ◌∙◌, ◌++◌, ℕ, List, append_assoc, length, refl, sym, ap, subst}
use Rattle.std.specs.List.{flat_map}
use Rattle.std.specs.Prelude.{Result, OnOk}
use Rattle.indexmap.proofs.MapLemmas.{OnOk-map}
use Rattle.kb_geometry.specs.declared.shape.Shape.{Shape}
use Rattle.opening_tree.specs.declared.answer.Opening.{Opening}
use Rattle.opening_tree.specs.Openings.{IsOpenings}
use Rattle.query_script.specs.Texts.{opening_head}
use Rattle.session_core.specs.Answers.{IsOpeningText, View, openings_text}
use Rattle.session_core.specs.OpeningLines.{opening_lines}

-- two texts were appended, one behind the other
pub appended_both : {T E : Type 0} (result : Result T E) (old first between second new : List ℕ) → between ≡ old ++ first → OnOk result (new ≡ between ++ second) → OnOk result (new ≡ old ++ (first ++ second))
appended_both result old first between second new before printed =
    OnOk-map result _ _ (λ is. is ∙ ap (λ (b : List ℕ). b ++ second) before ∙ append_assoc old first second) printed

-- the first line was appended, and then the lines of each opening
pub openings-printed : {T E : Type 0} (result : Result T E) (line : ℕ) (view : View) (version count long : ℕ) (openings : List Opening) (old between new : List ℕ)
    → version ≡ view.version → count ≡ length view.games → long ≡ length openings → between ≡ old ++ opening_head line version count long → OnOk result (new ≡ between ++ flat_map opening_lines openings)
    → OnOk result (new ≡ old ++ openings_text line view openings)
openings-printed result line view version count long openings old between new own counted as_many before printed =
    appended_both result old (opening_head line view.version (length view.games) (length openings)) between (flat_map opening_lines openings) new
    (before ∙ (λ i. old ++ opening_head line (own i) (counted i) (as_many i))) printed

-- the text of the openings was appended
pub IsOpeningText-printed : {T E : Type 0} (result : Result T E) (line : ℕ) (view : View) (shape : Shape) (depth least : ℕ) (all shown : List Opening) (old new : List ℕ)
    → shown ≡ all → IsOpenings shape depth least view.games all → OnOk result (new ≡ old ++ openings_text line view shown)
    → OnOk result ((text : List ℕ) × IsOpeningText line view shape depth least text × (new ≡ old ++ text))
IsOpeningText-printed result line view shape depth least all shown old new same are printed =
    OnOk-map result _ _ (λ is. (
      openings_text line view shown,
      record { openings = shown; are_openings = subst (IsOpenings shape depth least view.games) (sym same) are; text_is = refl },
      is,
    )) printed
