use Rattle.ready_images.specs.Wants.{want_at, no_want}
use Rattle.ready_images.proofs.pairs.add_pairs_of.Goals as goal

pub add_pairs-requires-clause-stone : goal.add_pairs-requires-clause-stone
add_pairs-requires-clause-stone c =
    let k = c.loop-stone.stone-index in
    ((want_at c.args.stones.now k).cell, c.requires.stones k no_want c.loop-stone-test.true, c.requires.wants k no_want c.loop-stone-test.true)
