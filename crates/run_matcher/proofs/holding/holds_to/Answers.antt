-- Up to before the next change of one of its points.
use Rattle.std.proofs.Common.{arith}
use Rattle.pattern_images.specs.ImageList.{placement_at}
use Rattle.run_matcher.proofs.HoldingOn.{holds-on, is-sought, on-board}
use Rattle.run_matcher.proofs.holding.holds_to.Goals as goal

pub unchanged_to-requires-clause-on_board : goal.unchanged_to-requires-clause-on_board
unchanged_to-requires-clause-on_board c =
    let images = c.args.placement.now.ready.now.images in
    on-board images.shape c.args.runs.now.shape c.requires.shape (placement_at images.placements c.args.placement.now.number) c.base.result c.wants.result.wants.now c.base.ensures c.wants.ensures.on_board

pub returns-clause-holds : goal.returns-clause-holds
returns-clause-holds c = λ deltas are is held k from below.
    let images = c.args.placement.now.ready.now.images in
    let placement = placement_at images.placements c.args.placement.now.number in
    let wants = c.wants.result.wants.now in
    let sought = is-sought images.shape c.args.runs.now.shape c.requires.shape placement c.base.result wants c.base.ensures c.wants.ensures.placed c.wants.ensures.are in
    holds-on c.args.runs.now placement c.base.result wants sought c.args.node k c.requires.in_range (omega (arith, below, c.unchanged_to.ensures.most)) (c.unchanged_to.ensures.stays k from below) deltas is held
