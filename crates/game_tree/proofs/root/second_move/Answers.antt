use Rattle.std.proofs.Common.{◌∙◌, ap, cond}
use Rattle.game_tree.proofs.SecondMoves.{few_at_end, no_second, second_at}
use Rattle.game_tree.proofs.root.second_move.Goals as goal

pub returns-then-seen : goal.returns-then-seen
returns-then-seen c =
    second_at c.args.text.now c.args.pairs.now c.loop-pair.pair-index _ _ c.loop-pair-test.true (c.loop-pair.invariant ∙ ap (λ b. cond b 1 0) c.if-seen.true) c.if-is_move.ensures c.fault_at.ensures

pub returns : goal.returns
returns c = no_second c.args.text.now c.args.pairs.now (few_at_end c.args.text.now c.args.pairs.now c.loop-pair.pair-index c.loop-pair.seen c.loop-pair-test.false c.loop-pair.invariant)
