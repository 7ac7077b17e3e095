use Rattle.opening_tree.proofs.TurnedWalks.{turned_entered, turned_on_board}
use Rattle.opening_tree.proofs.image_walker.ImageWalker.enter.Goals as goal

pub make-requires : goal.make-requires
make-requires c = turned_on_board c.args.deltas.now c.changes.ensures.deltas _ _ _ c.self.view_is c.requires.stands c.args.n _ c.changes.ensures.changes

pub returns-clause-stands : goal.returns-clause-stands
returns-clause-stands c =
    turned_entered c.args.deltas.now c.changes.ensures.deltas _ _ _ c.self.view_is c.requires.stands c.make.new.self c.make.ensures.shape _ c.args.n c.requires.in_range c.changes.ensures.value c.requires.child c.make.ensures.images
