use Rattle.std.proofs.Common.{◌≡◌, ◌<◌, length}
use Rattle.kb_geometry.specs.Board.{point_count}
use Rattle.capture_board.specs.Deltas.{node_count, parent_of, position_at}
use Rattle.node_paths.specs.Parents.{IsOnPathTo}
use Rattle.capture_index.specs.Building.{IsMade}
use Rattle.capture_index.proofs.building.go_back.Given as goal

abbrev pub invariant-loop-at : goal.invariant-loop-at
invariant-loop-at l = (length l.growing ≡ point_count l.deltas.shape) × (l.at < node_count l.deltas) × IsOnPathTo (parent_of l.deltas) l.parent l.at × IsMade l.n (position_at l.deltas l.at) l.fn.growing l.growing

abbrev pub decreases-loop-at : goal.decreases-loop-at
decreases-loop-at l = l.at
