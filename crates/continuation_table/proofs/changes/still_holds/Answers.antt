use Rattle.pattern_images.specs.ImageList.{placement_at}
use Rattle.continuation_table.proofs.Children.{holds-child, on_board-child}
use Rattle.continuation_table.proofs.changes.still_holds.Goals as goal

pub are_allowed-requires-clause-on_board : goal.are_allowed-requires-clause-on_board
are_allowed-requires-clause-on_board c =
    on_board-child c.args.deltas.now c.args.images.now.shape c.requires.shape c.args.node c.changes.result.now c.changes.ensures.deltas c.changes.ensures.value c.changes.ensures.changes

pub returns : goal.returns
returns c = λ above parent holds.
    let both = holds-child c.args.deltas.now c.args.images.now.shape c.requires.shape c.args.node c.changes.result.now c.changes.ensures.deltas c.changes.ensures.value c.changes.ensures.changes
    above parent (placement_at c.args.images.now.placements c.args.i) c.requires.placed holds in
    (λ t. both.0 (c.are_allowed.ensures.0 t), λ h. c.are_allowed.ensures.1 (both.1 h))
