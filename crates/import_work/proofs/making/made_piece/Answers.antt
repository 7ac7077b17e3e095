use Rattle.import_work.proofs.MadePieces.{made-alone}
use Rattle.import_work.proofs.making.made_piece.Goals as goal

pub returns : goal.returns
returns c = made-alone _ _ _ _ c.in_ok-segments.ensures.items c.in_ok-push.ensures.items c.in_ok-segment_of.ensures
