-- What is told of one list of changes of a tree is told of each.
use Rattle.std.proofs.Common.{◌≡◌, ℕ, ◌<◌, List, subst, ◌∙◌, ap}
use Rattle.std.specs.Prelude.{Contains}
use Rattle.kb_geometry.specs.declared.stone.Cell.{Cell}
use Rattle.kb_geometry.specs.Board.{point_count}
use Rattle.kb_geometry.specs.Capture.{Position}
use Rattle.game_tree.specs.Tree.{IsTree, Tree}
use Rattle.capture_board.specs.Deltas.{Deltas}
use Rattle.final_index.specs.declared.ever_sets.EverSets.{EverSets}
use Rattle.final_index.specs.Ever.{AreSetsOf, set_of}
use Rattle.capture_index.specs.NodePositions.{NodePositions, positions_of}
use Rattle.corner_index.specs.Corners.{AreNumbersOfGame}
use Rattle.node_position.specs.Games.{AreNodeChanges}
use Rattle.node_position.specs.Positions.{AreDeltasOf}
use Rattle.node_position.proofs.OneChange.{changes-unique}
use Rattle.node_position.proofs.OnePosition.{positions-unique}
use Rattle.segment_store.specs.Finished.{AreIndexesOf, AreSetsOfTree}

-- a tree has one list of changes
pub node_changes-unique : (tree : Tree) (one other : Deltas) → IsTree tree → AreNodeChanges tree one → AreNodeChanges tree other → one ≡ other
node_changes-unique tree one other is first second =
    changes-unique tree first.positions one other is first.net second.net first.lead
    (subst (λ (positions : List Position). AreDeltasOf tree positions other) (positions-unique tree second.positions first.positions is second.are_positions first.are_positions) second.lead)

module _ (tree : Tree) (changes : Deltas) (is : IsTree tree) (are : AreNodeChanges tree changes) where
  pub AreIndexesOf-changes : (sets : EverSets) (seen : NodePositions) (keys : List (List ℕ)) → AreSetsOf changes sets → seen ≡ positions_of changes → AreNumbersOfGame changes keys → AreIndexesOf tree sets seen keys
  AreIndexesOf-changes sets seen keys are_sets runs numbers = record {
    are_sets = λ other others. subst (λ (c : Deltas). AreSetsOf c sets) (node_changes-unique tree changes other is are others) are_sets;
    are_runs = λ other others. runs ∙ ap positions_of (node_changes-unique tree changes other is are others);
    are_corners = λ other others. subst (λ (c : Deltas). AreNumbersOfGame c keys) (node_changes-unique tree changes other is are others) numbers;
  }

-- the points of the sets are on the board
pub AreSetsOfTree-on_board : (tree : Tree) (changes : Deltas) (sets : EverSets) → AreNodeChanges tree changes → AreSetsOfTree tree sets → (stone : Cell) (p : ℕ) → Contains (set_of sets stone) p → p < point_count tree.shape
AreSetsOfTree-on_board tree changes sets are are_sets stone p there = rw (← are.lead.same_shape) (((are_sets changes are stone p).0 there).0)
