use Rattle.std.proofs.Common.{◌*◌}
use Rattle.final_index.specs.PlaneWords.{AreNoted}
use Rattle.final_index.proofs.planes.note.Given as goal

abbrev pub invariant-loop-part : goal.invariant-loop-part
invariant-loop-part l = AreNoted l.points (64 * l.part) l.fn.cell l.members l.game l.fn.words l.words
