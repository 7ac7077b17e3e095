use Rattle.opening_tree.proofs.TurnedWalks.{turned_left, turned_node_here, turned_on_board}
use Rattle.opening_tree.proofs.image_walker.ImageWalker.leave.Goals as goal

pub take_back-requires : goal.take_back-requires
take_back-requires c = turned_on_board c.args.deltas.now c.changes.ensures.deltas _ _ _ c.self.view_is c.requires.stands c.in-Some.n _ c.changes.ensures.changes

pub returns-in-Some-clause-stands : goal.returns-in-Some-clause-stands
returns-in-Some-clause-stands c =
    turned_left c.args.deltas.now c.changes.ensures.deltas _ _ _ c.self.view_is c.requires.stands c.take_back.new.self c.take_back.ensures.shape _ c.in-Some.n
    (turned_node_here c.args.deltas.now c.changes.ensures.deltas _ _ _ c.self.view_is c.requires.stands c.in-Some.n c.in-Some.is) c.changes.ensures.value c.in-Some.is c.take_back.ensures.images _ c.parent-self-inside.ensures.value
