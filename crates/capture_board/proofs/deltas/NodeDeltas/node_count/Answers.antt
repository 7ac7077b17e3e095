use Rattle.std.proofs.Common.{arith}
use Rattle.capture_board.proofs.StoredDeltas.{count_shown, deltas_shown}
use Rattle.capture_board.proofs.deltas.NodeDeltas.node_count.Goals as goal

pub overflow_cast-result : goal.overflow_cast-result
overflow_cast-result c =
    let d = deltas_shown _ _ _ _ c.self.view_is c.self.invariant in
    omega (arith, c.len.ensures, c.self.inside.nodes.ok.0, count_shown _ _ _ _ c.self.view_is c.self.invariant, d.most)

pub returns-clause-value : goal.returns-clause-value
returns-clause-value c = omega (arith, c.len.ensures, c.self.inside.nodes.ok.0, count_shown _ _ _ _ c.self.view_is c.self.invariant)

pub returns-clause-most : goal.returns-clause-most
returns-clause-most c =
    let d = deltas_shown _ _ _ _ c.self.view_is c.self.invariant in
    omega (arith, c.len.ensures, c.self.inside.nodes.ok.0, count_shown _ _ _ _ c.self.view_is c.self.invariant, d.most)
