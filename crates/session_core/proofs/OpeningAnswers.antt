-- The openings of games have a text, and one only.
use Rattle.std.proofs.Common.{◌≡◌, ◌∙◌, ℕ, List, All, refl, sym, ap}
use Rattle.kb_geometry.specs.declared.shape.Shape.{Shape}
use Rattle.game_tree.specs.Tree.{IsTree}
use Rattle.node_position.specs.Games.{Game}
use Rattle.opening_tree.proofs.OneOpening.{openings-unique}
use Rattle.opening_tree.proofs.OpeningsExist.{openings-found}
use Rattle.session_core.specs.Answers.{IsOpeningText, View, openings_text}

module _ (line : ℕ) (view : View) (trees : All (λ (g : Game). IsTree g.tree) view.games) (shape : Shape) (depth least : ℕ) where
  pub opening-text : (text : List ℕ) × IsOpeningText line view shape depth least text
  opening-text =
      let (openings, are) = openings-found shape depth least view.games trees in
      (openings_text line view openings, record { openings = openings; are_openings = are; text_is = refl })

  pub opening-one : (a b : List ℕ) → IsOpeningText line view shape depth least a → IsOpeningText line view shape depth least b → a ≡ b
  opening-one a b one other =
      one.text_is
      ∙ ap (openings_text line view) (openings-unique shape depth least view.games one.openings other.openings trees one.are_openings other.are_openings)
      ∙ sym other.text_is
