use Rattle.std.proofs.Common.{◌≡◌, arith, ◌∙◌}
use Rattle.sgf_reader.specs.declared.fault.FaultKind.TheVariants.{TooManyNodes}
use Rattle.sgf_reader.proofs.ReadingLemmas.{first-le, node-flat, node-view, nodes-open}
use Rattle.sgf_reader.proofs.reading.Reading.begin_node.Goals as goal

pub overflow_sub-number : goal.overflow_sub-number
overflow_sub-number c =
    let s = c.self.inside in
    omega (arith, first-le c.self.invariant, c.len.ensures, s.nodes.ok.0)

pub returns-then-number-clause-fault : goal.returns-then-number-clause-fault
returns-then-number-clause-fault c = λ f is.
    let s = c.self.inside in
    let same : f ≡ record { kind = TooManyNodes; at = c.args.at } = cc in
    (same, omega (arith, nodes-open c.self.invariant _ _ _ c.self.view_is, c.len.ensures, s.nodes.ok.0, c.if-number.true))

pub invariant_of-self-2 : goal.invariant_of-self-2
invariant_of-self-2 c =
    let s = c.self.inside in
    rw c.in_ok-push.ensures.items (node-flat c.self.invariant _ (c.len-2.ensures ∙ s.pairs.ok.0))

pub returns-clause-ok : goal.returns-clause-ok
returns-clause-ok c =
    let s = c.self.inside in
    let counted = c.len.ensures ∙ s.nodes.ok.0 in (
      rw (c.in_ok-push.ensures.items, counted) (node-view c.self.invariant _ _ _ c.self.view_is (c.len-2.ensures ∙ s.pairs.ok.0)),
      omega (arith, nodes-open c.self.invariant _ _ _ c.self.view_is, counted, c.if-number.false),
    )
