use Rattle.std.proofs.Common.{arith}
use Rattle.corner_index.proofs.CornerLists.{IsIndexOf-below}
use Rattle.board_cases.proofs.corners.both_of.Goals as goal

pub join-requires-clause-before : goal.join-requires-clause-before
join-requires-clause-before c = IsIndexOf-below c.args.one.now c.in_ok-a.a _ c.in_ok-a.ensures (omega arith)

pub join-requires-clause-fits : goal.join-requires-clause-fits
join-requires-clause-fits c = IsIndexOf-below c.args.other.now c.in_ok-b.b _ c.in_ok-b.ensures (omega (arith, c.requires))
