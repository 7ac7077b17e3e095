use Rattle.std.proofs.Common.{◌∙◌, ap, subst}
use Rattle.pattern_images.specs.Grid.{Grid}
use Rattle.pattern_images.specs.ImageList.{grid_at, no_placement, placement_at}
use Rattle.ready_images.specs.Wants.{AreWantsOf}
use Rattle.ready_images.proofs.WantsOfPlacements.{wants-on_board}
use Rattle.ready_images.proofs.prepared.Prepared.wants.Goals as goal

pub returns-clause-are : goal.returns-clause-are
returns-clause-are c =
    let images = c.args.self.now.ready.now.images in
    let is = c.args.self.now.is in
    subst (λ (g : Grid). AreWantsOf images.shape g c.class_wants.result.wants.now) (ap (grid_at images.grids) c.from.ensures ∙ is.has.cells) c.class_wants.ensures.are

pub returns-clause-on_board : goal.returns-clause-on_board
returns-clause-on_board c =
    let images = c.args.self.now.ready.now.images in
    let number = c.args.self.now.number in
    wants-on_board images.shape (placement_at images.placements number) (c.class_wants.ensures.images.placed number no_placement c.args.self.now.is.in_range) c.class_wants.result.wants.now (returns-clause-are c)
