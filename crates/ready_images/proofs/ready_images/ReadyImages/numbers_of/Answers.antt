use Rattle.std.proofs.Common.{◌-◌, ◌<◌, ℕ, arith, length, slice_index, subst}
use Rattle.pattern_images.specs.ImageList.{AreImages}
use Rattle.ready_images.specs.Ready.{ReadyList}
use Rattle.ready_images.proofs.RowWants.{row-base-small}
use Rattle.ready_images.proofs.ready_images.ReadyImages.numbers_of.Goals as goal

pub returns-clause-on_board : goal.returns-clause-on_board
returns-clause-on_board c =
    let told = subst (λ (r : ReadyList). AreImages r.images × ((k : ℕ) → k < length r.numbers → slice_index r.numbers k < length r.images.placements)) c.self.view_is (c.self.invariant.are, c.self.invariant.in_rows.in_range) in
    omega (arith, row-base-small c.args.self.now.images told.0 c.args.self.now.numbers told.1 c.args.row.now c.requires (c.args.row.now.count - 1) (omega (arith, c.requires.some)), c.requires.some)
