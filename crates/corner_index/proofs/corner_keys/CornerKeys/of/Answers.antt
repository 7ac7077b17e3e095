use Rattle.std.proofs.Common.{◌≡◌, ◌++◌, List, ℕ, ◌∙◌, ap, subst, arith}
use Rattle.corner_index.specs.Keys.{AreKeysTo}
use Rattle.corner_index.proofs.KeyParts.{AreKeysTo-grown, AreKeysTo-told}
use Rattle.corner_index.proofs.corner_keys.CornerKeys.of.Goals as goal

pub numbers_of-requires-clause-nodes : goal.numbers_of-requires-clause-nodes
numbers_of-requires-clause-nodes c = λ has. rw c.as_slice.ensures.value (c.in_ok-nodes.ensures has)

pub loop-corner-preserved : goal.loop-corner-preserved
loop-corner-preserved c =
    AreKeysTo-grown c.args.deltas.now c.loop-corner.corner c.loop-corner.ends c.loop-corner.keys.items c.in_ok-numbers.numbers.items (omega (arith, c.loop-corner-test.true)) c.loop-corner.invariant c.in_ok-numbers.ensures c.from.result c.len.result c.extend_from_slice.new.self.items c.from.ensures
    (c.in_ok-extend_from_slice.ensures.items ∙ ap (λ (xs : List ℕ). c.loop-corner.keys.items ++ xs) c.deref.ensures.value)
    (c.len.ensures ∙ c.extend_from_slice.new.self.ok.0)

pub returns : goal.returns
returns c =
    let all : c.loop-corner.corner ≡ 4 = omega (arith, c.loop-corner-test.false, c.loop-corner.auto.corner-end) in
    AreKeysTo-told c.args.deltas.now c.loop-corner.ends c.loop-corner.keys.items c.shrink_to_fit.new.self.items
    (subst (λ n. AreKeysTo c.args.deltas.now n c.loop-corner.ends c.loop-corner.keys.items) all c.loop-corner.invariant) c.shrink_to_fit.ensures.items
