use Rattle.final_index.specs.OrderWords.{IsBehindOf}
use Rattle.final_index.specs.PlaneWords.{HaveGained}
use Rattle.final_index.proofs.order_planes.note_behind.Given as goal

-- the points so far
abbrev pub invariant-loop-p : goal.invariant-loop-p
invariant-loop-p l = HaveGained (IsBehindOf l.spans l.start l.step l.p) l.game l.fn.words l.words
