-- Each tree has its positions and its changes: they are found node by node.
use Rattle.std.proofs.Common.{◌≡◌, ℕ, zero, suc, ◌+◌, ◌<◌, ◌≤◌, List, [], ◌∷◌, length, Option, Some, None, refl, sym, ap, subst, ◌∙◌, add-one, arith}
use Rattle.std.specs.Prelude.{IfSome}
use Rattle.std.proofs.lemmas.List.{length-set}
use Rattle.std.proofs.lemmas.List.FromFn.{length-map-range_with_len}
use Rattle.kb_geometry.specs.declared.shape.Shape.{Shape}
use Rattle.kb_geometry.specs.declared.shape.Point.{Point}
use Rattle.kb_geometry.specs.declared.stone.Colour.{Colour}
use Rattle.kb_geometry.specs.Board.{IsOnBoard, number_of, point_count}
use Rattle.kb_geometry.specs.Capture.{IsMovePlayed, Position, empty_board, stone_of, with_rect}
use Rattle.game_tree.specs.declared.node.Move.{Move}
use Rattle.game_tree.specs.declared.node.Setup.{Setup}
use Rattle.game_tree.specs.Tree.{IsTree, Tree, node_at, node_count, parent_of}
use Rattle.game_tree.specs.Position.{ArePositions, IsMoved, set_up_all}
use Rattle.capture_board.specs.Board.{ShapedPosition}
use Rattle.capture_board.specs.Deltas as deltas
use Rattle.capture_board.proofs.DeltaPaths.{length-position_where}
use Rattle.capture_board.proofs.FoundChanges.{LeadFrom-found}
use Rattle.capture_board.proofs.Outcomes.{move_played}
use Rattle.node_position.specs.Positions.{AreDeltasOf}
use Rattle.node_position.specs.Standing.{Shows}
use Rattle.node_position.proofs.Following.{Followed, Followed-end, Followed-more, Followed-start, parent_before}
use Rattle.node_position.proofs.OnePosition.{positions-unique}

length-set_up_all : (shape : Shape) (position : Position) (setups : List Setup)
    → length position ≡ point_count shape → length (set_up_all shape position setups) ≡ point_count shape
length-set_up_all shape position [] same = same
length-set_up_all shape position (s ∷ ss) same =
    length-set_up_all shape (with_rect shape position s.cell s.rect) ss
    (length-map-range_with_len _ 0 (point_count shape))

move_length : (shape : Shape) (before : Position) (side : Colour) (point : Option Point) (after : Position)
    → IsMovePlayed shape before side point after → length after ≡ length before
move_length shape before side None after h = ap (λ (p : Position). length p) h
move_length shape before side (Some p) after h =
    h.suicide.same_length ∙ h.captures.same_length ∙ length-set before (number_of shape p) (stone_of side)

-- the position after what a node plays, with as many cells
moved : (shape : Shape) (before : Position) (played : Option Move)
    → IfSome played (λ (m : Move). IfSome m.point (λ (p : Point). IsOnBoard shape p))
    → (after : Position) × IsMoved shape before played after × (length after ≡ length before)
moved shape before None on = (before, refl, refl)
moved shape before (Some m) on =
    let after = move_played shape before m.colour m.point on in
    (after.0, after.1, move_length shape before m.colour m.point after.0 after.1)

module _ (game : Tree) (is_tree : IsTree game) where
  -- the nodes below n are followed, with some changes and some board
  abbrev IsFollowed : ℕ → Type 0
  IsFollowed n = (changes : deltas.Deltas) × (board : ShapedPosition) × Followed game changes board n

  follow_one : (n : ℕ) → n < node_count game → IsFollowed n → IsFollowed (n + 1)
  follow_one n below (changes, board, h) =
      let parent = parent_of game n in
      let before : ShapedPosition = record { shape = game.shape; position = deltas.position_where changes parent } in
      let in_range : IfSome parent (λ m. m < deltas.node_count changes) =
      rw h.counted (parent_before game is_tree n below) in
      let back : Shows changes parent before =
      record { same_shape = sym h.same_shape; in_range = in_range; shown = refl } in
      let whole : length before.position ≡ point_count game.shape =
      length-position_where changes parent ∙ ap point_count h.same_shape in
      let laid = set_up_all game.shape before.position (node_at game n).setups in
      let same : length laid ≡ length before.position =
      length-set_up_all game.shape before.position (node_at game n).setups whole ∙ sym whole in
      let here = moved game.shape laid (node_at game n).played (is_tree.on_board n below).played in
      let after : ShapedPosition = record { shape = game.shape; position = here.0 } in
      let made = LeadFrom-found before.position here.0 (here.2 ∙ same) in (
        deltas.with_node changes parent made.0,
        after,
        Followed-more game is_tree changes board n h below made.0 before after back made.1 refl here.1,
      )

  followed : (n : ℕ) → n ≤ node_count game → IsFollowed n
  followed zero le =
      let board : ShapedPosition = record { shape = game.shape; position = empty_board game.shape } in
      (deltas.no_nodes game.shape, board, Followed-start game board refl refl)
  followed (suc n) le =
      subst IsFollowed (add-one n) (follow_one n (omega arith) (followed n (omega arith)))

  found : (changes : deltas.Deltas) × deltas.AreDeltas changes
      × ((positions : List Position) × ArePositions game positions × AreDeltasOf game positions changes)
  found =
      let all = followed (node_count game) (omega arith) in
      (all.0, all.2.good, Followed-end game is_tree all.0 all.1 all.2)

  pub positions-found : (positions : List Position) × ArePositions game positions
  positions-found = (found.2.0, found.2.1)

  pub changes-found : (positions : List Position) → ArePositions game positions
      → (changes : deltas.Deltas) × deltas.AreDeltas changes × AreDeltasOf game positions changes
  changes-found positions are =
      let same = positions-unique game found.2.0 positions is_tree found.2.1 are in
      (found.0, found.1, subst (λ (ps : List Position). AreDeltasOf game ps found.0) same found.2.2)
