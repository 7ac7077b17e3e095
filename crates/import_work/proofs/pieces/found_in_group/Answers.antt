use Rattle.import_work.proofs.FoundPieces.{piece_alone}
use Rattle.import_work.proofs.pieces.found_in_group.Goals as goal

pub returns : goal.returns
returns c = piece_alone _ c.in_ok-pieces.pieces.items _ _ c.in_ok-pieces.ensures.items c.in_ok-push.ensures.items c.in_ok-files.ensures (rw c.as_slice-2.ensures.value at c.in_ok-games.ensures)
