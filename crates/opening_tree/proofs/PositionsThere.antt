-- The positions at the nodes of a tree: each has a cell for each point of the board.
use Rattle.std.proofs.Common.{◌≡◌, ℕ, ◌<◌, List, length, sym, ap, ◌∙◌}
use Rattle.kb_geometry.specs.Board.{point_count}
use Rattle.kb_geometry.specs.Capture.{Position}
use Rattle.game_tree.specs.Position.{ArePositions}
use Rattle.game_tree.specs.Tree.{IsTree, Tree, node_count}
use Rattle.capture_board.proofs.DeltaPaths.{length-position_at}
use Rattle.node_position.proofs.EachTree.{changes-found}
use Rattle.opening_tree.specs.Entries.{position_in}

pub length-position_in : (tree : Tree) → IsTree tree → (positions : List Position) → ArePositions tree positions → (n : ℕ) → n < node_count tree → length (position_in positions n) ≡ point_count tree.shape
length-position_in tree is_tree positions are n lt =
    let changes = changes-found tree is_tree positions are in
    ap length (sym (changes.2.each_position n lt)) ∙ length-position_at changes.0 n ∙ ap point_count changes.2.same_shape
