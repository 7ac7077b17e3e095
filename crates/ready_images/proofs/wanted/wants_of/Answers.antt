-- One class more.
use Rattle.ready_images.proofs.WantLists.{HaveWantsTo-more, HaveWantsTo-start}
use Rattle.ready_images.proofs.wanted.wants_of.Goals as goal

pub loop-class-init : goal.loop-class-init
loop-class-init c = HaveWantsTo-start c.args.images.now.shape c.args.images.now.grids _ _ c.in_ok-classes.ensures.items

pub loop-class-preserved : goal.loop-class-preserved
loop-class-preserved c =
    HaveWantsTo-more c.args.images.now.shape c.args.images.now.grids c.loop-class.class c.loop-class.classes.items c.push.new.self.items c.loop-class.lists.wants.items c.add_wants.new.lists.wants.items c.in_ok-add_wants.field-0
    c.loop-class.invariant c.in_ok-add_wants.ensures c.in_ok-push.ensures.items
