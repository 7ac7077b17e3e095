-- The points of which the placements of a row ask something are on the board.
use Rattle.std.proofs.Common.{◌≡◌, ℕ, ◌+◌, ◌-◌, ◌<◌, ◌≤◌, List, length, slice_index, sym, ap, ◌∙◌, subst, arith}
use Rattle.std.specs.Prelude.{All, slice_index_or, slice_range}
use Rattle.kb_geometry.specs.Board.{point_count}
use Rattle.pattern_images.specs.declared.cell.PatternCell.{PatternCell}
use Rattle.pattern_images.specs.declared.cell.PatternCell.TheVariants as kind
use Rattle.pattern_images.specs.Grid.{Grid}
use Rattle.pattern_images.specs.ImageList.{AreImages, ImageList, grid_at, no_placement, placement_at}
use Rattle.pattern_images.specs.Placements.{Placement}
use Rattle.ready_images.specs.declared.pair.Pair.{Pair}
use Rattle.ready_images.specs.declared.row.Row.{Row}
use Rattle.ready_images.specs.declared.want.Want.{Want}
use Rattle.ready_images.specs.declared.want_lists.ClassRange.{ClassRange}
use Rattle.ready_images.specs.Pairs.{IsPairBelow, IsPairIn}
use Rattle.ready_images.specs.Rows.{IsRowIn}
use Rattle.ready_images.specs.StoredWants.{HaveWantsTo, wants_in}
use Rattle.ready_images.specs.Wants.{AreWantsOf, IsWantIn}
use Rattle.ready_images.proofs.WantsOfPlacements.{base-on_board, number_under-base, number_under-on_board, wants-on_board}

-- ---- a class

-- the wants of a class, as they are read
pub class-read : (images : ImageList) (classes : List ClassRange) (wants read : List Want) (class k : ℕ) (range : ClassRange) → HaveWantsTo images.shape images.grids (length images.grids) classes wants → k ≡ class → class < length images.grids → range ≡ slice_index_or classes k range → read ≡ wants →
    AreWantsOf images.shape (grid_at images.grids class) (slice_range read range.start range.end)
class-read images classes wants read class k range have same lt at eq =
    subst (λ (ws : List Want). AreWantsOf images.shape (grid_at images.grids class) (slice_range ws range.start range.end)) (sym eq)
    (subst (λ (r : ClassRange). AreWantsOf images.shape (grid_at images.grids class) (wants_in wants r)) (sym (at ∙ ap (λ (n : ℕ). slice_index_or classes n range) same)) (have.each class range lt).are)

-- ---- a row

module _ (images : ImageList) (are : AreImages images) (numbers : List ℕ) (in_range : (k : ℕ) → k < length numbers → slice_index numbers k < length images.placements) (row : Row) (is : IsRowIn images numbers row) where
  -- a placement of the row
  abbrev here : ℕ → Placement
  here k = placement_at images.placements (slice_index numbers (row.start + k))

  -- the points of the last placement are on the board, and so those of the others
  pub row-on_board : (wants : List Want) → AreWantsOf images.shape (grid_at images.grids row.class) wants → All (λ (w : Want). row.base + w.offset + row.count ≤ point_count images.shape) wants
  row-on_board wants of k d lt =
      let last : row.count - 1 < row.count = omega (arith, is.some) in
      let seat : row.start + (row.count - 1) < length numbers = omega (arith, is.within, is.some) in
      let placed = are.placed (slice_index numbers (row.start + (row.count - 1))) no_placement (in_range (row.start + (row.count - 1)) seat) in
      let own : AreWantsOf images.shape (here (row.count - 1)).grid wants = subst (λ (g : Grid). AreWantsOf images.shape g wants) (is.classes (row.count - 1) last).cells of in
      omega (arith, wants-on_board images.shape (here (row.count - 1)) placed wants own k d lt, is.bases (row.count - 1) last, is.some)

  -- the number of a placement's upper left point is small
  pub row-base-small : (k : ℕ) → k < row.count → row.base + k < point_count images.shape
  row-base-small k lt =
      let seat : row.start + k < length numbers = omega (arith, is.within, lt) in
      omega (arith, is.bases k lt, base-on_board images.shape (here k) (are.placed (slice_index numbers (row.start + k)) no_placement (in_range (row.start + k) seat)))

  -- so for the pairs of its class
  offset-on_board : (offset : ℕ) (cell : PatternCell) → IsWantIn images.shape (grid_at images.grids row.class) (record { offset = offset; cell = cell }) → row.base + offset + row.count ≤ point_count images.shape
  offset-on_board offset cell want =
      let last : row.count - 1 < row.count = omega (arith, is.some) in
      let seat : row.start + (row.count - 1) < length numbers = omega (arith, is.within, is.some) in
      let placed = are.placed (slice_index numbers (row.start + (row.count - 1))) no_placement (in_range (row.start + (row.count - 1)) seat) in
      let (dx, dy, in_cols, in_rows, (at, same)) = subst (λ (g : Grid). IsWantIn images.shape g (record { offset = offset; cell = cell })) (is.classes (row.count - 1) last).cells want in
      omega (arith, number_under-on_board images.shape (here (row.count - 1)) placed dx dy in_cols in_rows, number_under-base images.shape (here (row.count - 1)) placed dx dy, at, is.bases (row.count - 1) last, is.some)

  pub pairs-on_board : (pairs : List Pair) → All (IsPairIn images.shape (grid_at images.grids row.class)) pairs → All (IsPairBelow (point_count images.shape) row.base row.count) pairs
  pairs-on_board pairs of k d lt =
      let ((cell, rank, stone), empty) = of k d lt in
      (offset-on_board (slice_index_or pairs k d).stone cell stone, offset-on_board (slice_index_or pairs k d).empty kind.Empty empty)
