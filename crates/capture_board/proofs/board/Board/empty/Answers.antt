use Rattle.std.proofs.lemmas.List.{take-replicate}
use Rattle.kb_geometry.specs.Board.{point_count}
use Rattle.kb_geometry.specs.declared.stone.Cell.TheVariants as cell
use Rattle.capture_board.specs.declared.board.TheConstants.{ROOM}
use Rattle.kb_geometry.proofs.Shapes.{point_count-le-most}
use Rattle.capture_board.proofs.board.Board.empty.Goals as goal

pub returns-clause-position : goal.returns-clause-position
returns-clause-position c = take-replicate (point_count c.args.shape) ROOM cell.Empty (point_count-le-most c.args.shape)
