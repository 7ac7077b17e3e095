use Rattle.std.proofs.Common.{◌∙◌, ap, arith, length}
use Rattle.std.proofs.lemmas.Iterator.Consumers.{YieldsList-end, YieldsList-from_rest, YieldsList-turn}
use Rattle.session_core.specs.Grouping.{entry_of, group_in}
use Rattle.session_core.proofs.GroupTexts.{few_groups, listed_of_all}
use Rattle.session_core.proofs.lists.count_groups.Goals as goal

pub overflow_add-groups : goal.overflow_add-groups
overflow_add-groups c =
    let turn = YieldsList-turn (YieldsList-from_rest c.args.by_key.now.entries (c.into_iter-key-iterator.ensures.into_iter_gives ∙ c.iter-key-items.ensures.rest)) c.loop-key.yielded _ c.loop-key.yielded_by _ _ _ c.in-Some.is c.next.ensures.steps in
    let few = few_groups (λ p. entry_of (p.0.now, p.1.now)) c.loop-key.yielded in
    omega (arith, turn.0, few, c.loop-key.invariant.counted, c.iter-key-items.ensures.fits)

pub returns : goal.returns
returns c =
    let all = YieldsList-end (YieldsList-from_rest c.args.by_key.now.entries (c.into_iter-key-iterator.ensures.into_iter_gives ∙ c.iter-key-items.ensures.rest)) c.loop-key.yielded _ c.loop-key.yielded_by _ _ c.in-None.is c.next.ensures.steps in
    c.loop-key.invariant.counted ∙ ap length (listed_of_all group_in c.loop-key.yielded c.args.by_key.now.entries all.0)
