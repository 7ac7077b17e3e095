use Rattle.std.proofs.Common.{[], arith, ap, Err}
use Rattle.game_tree.proofs.NodeValues.{nothing_added, same_error}
use Rattle.game_tree.proofs.ReadValues.{HasReadValues-start, built-more, values-bad}
use Rattle.game_tree.proofs.node_values.read_values.Goals as goal

pub loop-pair-init : goal.loop-pair-init
loop-pair-init c = record { read = ([], HasReadValues-start c.args.text.now c.args.shape, nothing_added c.args.builder.now); room = omega arith; on_board = tt }

pub loop-pair-preserved : goal.loop-pair-preserved
loop-pair-preserved c =
    let (read, room) = built-more c.args.text.now c.args.shape c.args.pairs.now c.loop-pair.pair-index _ c.loop-pair.played c.read_value.new.played c.args.builder.now c.loop-pair.builder c.read_value.new.builder c.loop-pair-test.true c.loop-pair.invariant.read c.in_default.ensures.ok c.loop-pair.invariant.room in
    record { read = read; room = room; on_board = c.in_default.ensures.on_board c.loop-pair.invariant.on_board }

pub returns-in-Err-clause-fault : goal.returns-in-Err-clause-fault
returns-in-Err-clause-fault c = λ f e.
    let (setups, h, is) = c.loop-pair.invariant.read in
    let (at, bad) = c.in-Err.ensures.fault f (ap Err (same_error _ _ e)) in
    values-bad c.args.text.now c.args.shape c.args.pairs.now c.loop-pair.pair-index _ setups c.loop-pair.played f.kind f.at c.loop-pair-test.true h bad c.requires.ascending (c.requires.inside _ _ c.loop-pair-test.true).bracket at
