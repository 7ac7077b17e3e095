use Rattle.kb_geometry.specs.Pieces.{ArePiecesJoined}
use Rattle.kb_geometry.proofs.joining.joined.Given as goal

abbrev pub invariant-loop-piece : goal.invariant-loop-piece
invariant-loop-piece g l = ArePiecesJoined l.yielded l.all.items
