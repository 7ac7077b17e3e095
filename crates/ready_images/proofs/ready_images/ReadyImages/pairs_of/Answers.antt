use Rattle.std.proofs.Common.{◌≡◌, ℕ, ◌<◌, ap, arith, length, slice_index, subst}
use Rattle.std.specs.Prelude.{All}
use Rattle.pattern_images.specs.ImageList.{AreImages, ImageList, grid_at}
use Rattle.ready_images.specs.Pairs.{IsPairIn}
use Rattle.ready_images.specs.Ready.{ReadyList}
use Rattle.ready_images.proofs.PairLists.{pairs-read}
use Rattle.ready_images.proofs.RowWants.{pairs-on_board}
use Rattle.ready_images.proofs.ready_images.ReadyImages.pairs_of.Goals as goal

pub returns-clause-are : goal.returns-clause-are
returns-clause-are c =
    let images = c.self.inside.images in
    let class = c.args.row.now.class in
    let same : c.self.inside.images ≡ c.args.self.now.images = ap (λ (r : ReadyList). r.images) c.self.view_is in
    let in_range : c.args.row.now.class < length c.self.inside.images.grids = omega (arith, (c.requires.classes 0 c.requires.some).in_range, ap (λ (i : ImageList). length i.grids) same) in
    subst (λ (i : ImageList). All (IsPairIn i.shape (grid_at i.grids c.args.row.now.class)) c.as_slice.result.now) same
    (pairs-read images c.self.inside.pairs.items c.index.result.now c.as_slice.result.now class c.from.result c.self.invariant.paired c.from.ensures in_range c.index.ensures c.as_slice.ensures.value)

pub returns-clause-on_board : goal.returns-clause-on_board
returns-clause-on_board c =
    let told = subst (λ (r : ReadyList). AreImages r.images × ((k : ℕ) → k < length r.numbers → slice_index r.numbers k < length r.images.placements)) c.self.view_is (c.self.invariant.are, c.self.invariant.in_rows.in_range) in
    pairs-on_board c.args.self.now.images told.0 c.args.self.now.numbers told.1 c.args.row.now c.requires c.as_slice.result.now (returns-clause-are c)
