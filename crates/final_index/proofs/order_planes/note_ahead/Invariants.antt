use Rattle.final_index.specs.OrderWords.{IsAhead}
use Rattle.final_index.specs.PlaneWords.{HaveGained}
use Rattle.final_index.proofs.order_planes.note_ahead.Given as goal

-- the points so far
abbrev pub invariant-loop-p : goal.invariant-loop-p
invariant-loop-p l = HaveGained (IsAhead l.spans l.start l.step l.p) l.game l.fn.words l.words
