use Rattle.ready_images.proofs.PairLists.{class-stones}
use Rattle.ready_images.proofs.pairs.class_pairs.Goals as goal

pub add_pairs_of-requires-clause-wants : goal.add_pairs_of-requires-clause-wants
add_pairs_of-requires-clause-wants c =
    (class-stones c.args.images.now c.args.made.now.classes.items c.args.made.now.wants.items c.deref.result.now c.args.class c.index.result.now c.requires.wants c.requires.in_range c.index.ensures c.deref.ensures.value).0

pub add_pairs_of-requires-clause-stones : goal.add_pairs_of-requires-clause-stones
add_pairs_of-requires-clause-stones c =
    (class-stones c.args.images.now c.args.made.now.classes.items c.args.made.now.wants.items c.deref.result.now c.args.class c.index.result.now c.requires.wants c.requires.in_range c.index.ensures c.deref.ensures.value).1
