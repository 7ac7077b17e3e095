-- The turned pattern: the image of a pattern under a label has one size and one list of cells, wherever its base place
-- is, and one upper left point.
use Rattle.std.proofs.Common.{◌≡◌, ℕ, ◌+◌, ◌-◌, ◌*◌, ◌/◌, ◌%◌, ◌<◌, ◌≤◌, if◌then◌else◌, true, false, List, length, get_or, set, inl, inr, refl, sym, ap, ◌∙◌, subst, arith, rules}
use Rattle.std.specs.Prelude.{nat_lt}
use Rattle.std.proofs.Math.Nat.{mod-lt, div-lt_iff_lt-mul, mul_comm, mod-add-div'}
use Rattle.std.proofs.lemmas.Nat.{div-mul-add, mod-mul-add, mul-add-lt}
use Rattle.std.proofs.lemmas.Bool.{cases_lt}
use Rattle.std.proofs.lemmas.Grind.{get_or-set_at}
use Rattle.std.proofs.lemmas.List.{same_lists, ext_get_or, get_or_default, get_or-set_other, length-set}
use Rattle.std.proofs.lemmas.List.FromFn.{length-map-range_with_len, get_or-map-range_with_len}
use Rattle.kb_geometry.specs.declared.shape.Shape.{Shape}
use Rattle.kb_geometry.specs.declared.shape.Point.{Point}
use Rattle.kb_geometry.specs.Board.{cols_of, rows_of, number_of, point_count, IsOnBoard}
use Rattle.kb_geometry.specs.Symmetry.{moved, inverse_number, symmetry_of, turned_cols, IsAllowed, point_of}
use Rattle.kb_geometry.proofs.Symmetries.{each_symmetry, same_point, IsTurned, moved-turned, turned-back, inverse-turned, back-turned}
use Rattle.pattern_images.specs.declared.cell.PatternCell.{PatternCell}
use Rattle.pattern_images.specs.declared.cell.PatternCell.TheVariants as cell
use Rattle.pattern_images.specs.declared.pattern.Pattern.{Pattern}
use Rattle.pattern_images.specs.declared.query.Query.{Query}
use Rattle.pattern_images.specs.declared.turning.Strides.{Strides}
use Rattle.pattern_images.specs.Grid.{Grid, cell_in, exchanged_cell, labelled_cell}
use Rattle.pattern_images.specs.Pattern.{grid_of, size_of}
use Rattle.pattern_images.specs.Placements.{Placement, Covers, IsImagePoint, IsImage, image_point}
use Rattle.pattern_images.specs.Turned.{numbered, source, turned_cell, first_cells, grid_by, upper_left, AreFilledTo, AreStrides}
use Rattle.pattern_images.proofs.Frames.{Fits, offset, moved-offset}

-- the size after a symmetry
abbrev pub turned_size : ℕ → Shape → Shape
turned_size n size = if nat_lt n 4 then size else record { cols = size.rows; rows = size.cols; in_range = (size.in_range.1, size.in_range.0) }

pub IsTurned-turned_size : (n : ℕ) (size : Shape) → IsTurned n size (turned_size n size)
IsTurned-turned_size n size = elim (nat_lt n 4) as (λ b. (cols_of (if b then size else record { cols = size.rows; rows = size.cols; in_range = (size.in_range.1, size.in_range.0) }) ≡ (if b then cols_of size else rows_of size)) × (rows_of (if b then size else record { cols = size.rows; rows = size.cols; in_range = (size.in_range.1, size.in_range.0) }) ≡ (if b then rows_of size else cols_of size))) [ true ↦ (refl, refl) | false ↦ (refl, refl) ]

-- ---- what the functions that turn a pattern write

-- the point of the pattern lies in it
pub source-on_board : (pattern : Pattern) (label : ℕ) (to : Shape) (p : Point) → IsTurned (symmetry_of label) (size_of pattern) to → IsOnBoard to p → IsOnBoard (size_of pattern) (source label to p)
source-on_board pattern label to p turned on = inverse-turned (size_of pattern) to p on (symmetry_of label) (mod-lt label (omega arith)) turned

-- a label below 8 keeps the colours
pub labelled_cell-kept : (label : ℕ) (c : PatternCell) → ¬ (8 ≤ label) → labelled_cell label c ≡ c
labelled_cell-kept label c kept = let below : nat_lt label 8 ≡ true = search rules in ap (λ b. if b then c else exchanged_cell c) below

-- the point with a number
pub point-numbered : (size : Shape) (k : ℕ) (p : Point) → IsOnBoard size p → number_of size p ≡ k → p ≡ numbered size k
point-numbered size k p on is = subst (λ (n : ℕ). p ≡ numbered size n) is
    (sym (same_point (numbered size (number_of size p)) p (mod-mul-add p.y (cols_of size) p.x on.0) (div-mul-add p.y (cols_of size) p.x on.0)))

-- no cell is filled in yet
pub filled-start : (size : Shape) (f : Point → PatternCell) (n : ℕ) (cells : List PatternCell) → length cells ≡ point_count size → n ≡ 0 → AreFilledTo size f n cells
filled-start size f n cells all none = record { all = all; filled = λ k below. absurd (omega (arith, none)) }

-- one cell more
pub filled-more : (size : Shape) (f : Point → PatternCell) (k : ℕ) (p : Point) (before after : List PatternCell) →
    IsOnBoard size p → number_of size p ≡ k → AreFilledTo size f k before → after ≡ set before k (f p) → AreFilledTo size f (k + 1) after
filled-more size f k p before after on is so_far now =
    let within : k < length before = subst (λ n. k < n) (sym so_far.all) (subst (λ n. n < point_count size) is (mul-add-lt p.y (cols_of size) p.x (rows_of size) on.1 on.0)) in
    record {
      all = ap length now ∙ length-set before k (f p) ∙ so_far.all;
      filled = λ j below. ap (λ cells. get_or cells j cell.Any) now ∙ elim (cases_lt j k) [
        | inl earlier ↦ get_or-set_other before k j (f p) cell.Any (λ same. absurd (omega (arith, same))) ∙ so_far.filled j earlier
        | inr later ↦ let same : j ≡ k = omega arith in
            get_or-set_at before k j (f p) cell.Any same within ∙ ap f (point-numbered size k p on is) ∙ ap (λ n. f (numbered size n)) (sym same)
      ];
    }

-- all cells are filled in
pub filled-all : (size : Shape) (f : Point → PatternCell) (n : ℕ) (cells : List PatternCell) → AreFilledTo size f n cells → n ≡ point_count size → cells ≡ first_cells size f (point_count size)
filled-all size f n cells filled all =
    ext_get_or cell.Any cells (first_cells size f (point_count size)) (filled.all ∙ sym (length-map-range_with_len (λ k. f (numbered size k)) 0 (point_count size)))
    (λ k below.
    let within : k < point_count size = subst (λ n. k < n) filled.all below in
    filled.filled k (subst (λ n. k < n) (sym all) within)
    ∙ sym (get_or-map-range_with_len (λ k. f (numbered size k)) 0 (point_count size) k k cell.Any within (omega arith)))

-- a symmetry's inverse gives back the columns
turned_cols-back : (size to : Shape) (n : ℕ) → n < 8 → IsTurned n size to → turned_cols (inverse_number n) to ≡ cols_of size
turned_cols-back size to = each_symmetry (λ n. IsTurned n size to → turned_cols (inverse_number n) to ≡ cols_of size)
    (λ t. t.0) (λ t. t.0) (λ t. t.0) (λ t. t.0) (λ t. t.1) (λ t. t.1) (λ t. t.1) (λ t. t.1)

-- the steps of a cell's row and of its place in it are those of its point
pub strides-number : (n : ℕ) (to : Shape) (strides : Strides) (p : Point) (below right base at : ℕ) → AreStrides n to strides → IsOnBoard to p →
    below ≡ rows_of to - 1 - p.y → right ≡ cols_of to - 1 - p.x → base ≡ p.y * strides.down + below * strides.up → at ≡ base + p.x * strides.forward + right * strides.backward →
    at ≡ (moved n to p).y * turned_cols n to + (moved n to p).x
strides-number n to strides p below right base at is on rows cols row_part all =
    all
    ∙ ap (λ k. k + p.x * strides.forward + right * strides.backward) (row_part ∙ ap (λ k. p.y * strides.down + k * strides.up) rows)
    ∙ ap (λ k. (p.y * strides.down + (rows_of to - 1 - p.y) * strides.up) + p.x * strides.forward + k * strides.backward) cols
    ∙ is p on

module _ (pattern : Pattern) (label : ℕ) (to : Shape) (p : Point) (turned : IsTurned (symmetry_of label) (size_of pattern) to) where
  -- the number of a point of the pattern, told by the turned rectangle
  pub source-number : (n : ℕ) → n ≡ inverse_number (symmetry_of label) →
      (moved n to p).y * turned_cols n to + (moved n to p).x ≡ number_of (size_of pattern) (source label to p)
  source-number n is =
      ap (λ m. (moved m to p).y * turned_cols m to + (moved m to p).x) is
      ∙ ap (λ cols. (source label to p).y * cols + (source label to p).x) (turned_cols-back (size_of pattern) to (symmetry_of label) (mod-lt label (omega arith)) turned)

  pub source-lt : IsOnBoard to p → number_of (size_of pattern) (source label to p) < point_count (size_of pattern)
  source-lt on =
      let there = source-on_board pattern label to p turned on in
      mul-add-lt (source label to p).y (cols_of (size_of pattern)) (source label to p).x (rows_of (size_of pattern)) there.1 there.0

  -- a cell that is read there
  module _ (n at : ℕ) (from : List PatternCell) (on : IsOnBoard to p) (is : n ≡ inverse_number (symmetry_of label))
      (there : at ≡ (moved n to p).y * turned_cols n to + (moved n to p).x) (same : from ≡ (grid_of pattern).cells) where
    pub from-lt : at < length from
    from-lt =
        let below : at < point_count (size_of pattern) = subst (λ k. k < point_count (size_of pattern)) (sym (there ∙ source-number n is)) (source-lt on) in
        subst (λ k. at < k) (sym (ap length same ∙ pattern.filled)) below

    pub cell-from : (d : PatternCell) → labelled_cell label (get_or from at d) ≡ turned_cell label to (grid_of pattern) p
    cell-from d = ap (labelled_cell label)
        (get_or_default from at d cell.Any from-lt
        ∙ ap (λ cells. get_or cells at cell.Any) same
        ∙ ap (λ k. get_or (grid_of pattern).cells k cell.Any) (there ∙ source-number n is))

-- ---- the pattern under a label

-- the pattern under a label
abbrev pub turned_grid : ℕ → Pattern → Grid
turned_grid label pattern = grid_by (turned_size (symmetry_of label) (size_of pattern)) (turned_cell label (turned_size (symmetry_of label) (size_of pattern)) (grid_of pattern))

pub same_grid : (a b : Grid) → a.cols ≡ b.cols → a.rows ≡ b.rows → a.cells ≡ b.cells → a ≡ b
same_grid a b cols rows cells =
    ap (λ n. record { cols = n; rows = a.rows; cells = a.cells }) cols
    ∙ ap (λ n. record { cols = b.cols; rows = n; cells = a.cells }) rows
    ∙ ap (λ l. record { cols = b.cols; rows = b.rows; cells = l }) cells

pub numbered-on_board : (size : Shape) (k : ℕ) → k < point_count size → IsOnBoard size (numbered size k)
numbered-on_board size k below =
    let some : 0 < cols_of size = omega (arith, size.in_range.0) in
    let swapped : k < rows_of size * cols_of size = rw mul_comm below in
    (mod-lt k some, (div-lt_iff_lt-mul some).1 swapped)

module _ (size : Shape) (f : Point → PatternCell) where
  pub grid_by-count : length (grid_by size f).cells ≡ point_count size
  grid_by-count = length-map-range_with_len (λ k. f (numbered size k)) 0 (point_count size)

  pub grid_by-cell : (p : Point) → IsOnBoard size p → cell_in (grid_by size f) p.x p.y ≡ f p
  grid_by-cell p on =
      let k : ℕ = p.y * cols_of size + p.x in
      let below : k < point_count size = mul-add-lt p.y (cols_of size) p.x (rows_of size) on.1 on.0 in
      let same : numbered size k ≡ p = same_point (numbered size k) p (mod-mul-add p.y (cols_of size) p.x on.0) (div-mul-add p.y (cols_of size) p.x on.0) in
      get_or-map-range_with_len (λ k. f (numbered size k)) 0 (point_count size) k k cell.Any below (omega arith) ∙ ap f same

  -- and no other rectangle of this size has these cells
  pub grid_by-only : (grid : Grid) → grid.cols ≡ cols_of size → grid.rows ≡ rows_of size → length grid.cells ≡ grid.cols * grid.rows →
      ((p : Point) → IsOnBoard size p → cell_in grid p.x p.y ≡ f p) → grid ≡ grid_by size f
  grid_by-only grid cols rows count cells =
      let number : length grid.cells ≡ point_count size = count ∙ ap (λ n. n * grid.rows) cols ∙ ap (λ n. cols_of size * n) rows in
      let each : (k : ℕ) (d : PatternCell) → k < length grid.cells → get_or grid.cells k d ≡ get_or (grid_by size f).cells k d =
      λ k d below.
      let place : k % cols_of size + k / cols_of size * cols_of size ≡ k = mod-add-div' k (cols_of size) in
      let at : k / cols_of size * grid.cols + k % cols_of size ≡ k = ap (λ n. k / cols_of size * n + k % cols_of size) cols ∙ omega arith in
      let on : IsOnBoard size (numbered size k) = numbered-on_board size k (subst (λ n. k < n) number below) in
      get_or_default grid.cells k d cell.Any below
      ∙ ap (λ n. get_or grid.cells n cell.Any) (sym at)
      ∙ cells (numbered size k) on
      ∙ sym (get_or-map-range_with_len (λ k. f (numbered size k)) 0 (point_count size) k k d (subst (λ n. k < n) number below) (omega arith)) in
      let same : grid.cells ≡ (grid_by size f).cells = same_lists grid.cells (grid_by size f).cells (number ∙ sym grid_by-count) each in
      same_grid grid (grid_by size f) cols rows same

-- what a label makes of the pattern that stands at a base place
abbrev pub image_of : Query → Shape → ℕ → Point → Placement
image_of query shape label base = record {
  label = label;
  x = (upper_left (symmetry_of label) shape (size_of query.pattern) base).x;
  y = (upper_left (symmetry_of label) shape (size_of query.pattern) base).y;
  grid = turned_grid label query.pattern;
}

module _ (query : Query) (shape : Shape) (label : ℕ) (base : Point) (fits : Fits shape (size_of query.pattern) base) (allowed : IsAllowed (symmetry_of label) shape) where
  below : symmetry_of label < 8
  below = mod-lt label (omega arith)

  turned : IsTurned (symmetry_of label) (size_of query.pattern) (turned_size (symmetry_of label) (size_of query.pattern))
  turned = IsTurned-turned_size (symmetry_of label) (size_of query.pattern)

  -- a point of the pattern, and where it is moved to
  there : (p : Point) → IsOnBoard (size_of query.pattern) p →
      image_point shape label base p.x p.y ≡ offset (upper_left (symmetry_of label) shape (size_of query.pattern) base) (moved (symmetry_of label) (size_of query.pattern) p)
  there p on = moved-offset shape (size_of query.pattern) base fits p on (symmetry_of label) below allowed

  offset-covered : (e : Point) → IsOnBoard (turned_size (symmetry_of label) (size_of query.pattern)) e →
      Covers (image_of query shape label base) (offset (upper_left (symmetry_of label) shape (size_of query.pattern) base) e)
  offset-covered e on = (omega arith, omega arith, omega arith, omega arith)

  covered-from : (q : Point) → IsImagePoint query shape label base q → Covers (image_of query shape label base) q
  covered-from q (dx, dy, column, row, is) =
      let to_on = moved-turned (size_of query.pattern) (turned_size (symmetry_of label) (size_of query.pattern)) (point_of dx dy) (column, row) (symmetry_of label) below turned in
      subst (λ (p : Point). Covers (image_of query shape label base) p) (sym (there (point_of dx dy) (column, row)) ∙ is) (offset-covered (moved (symmetry_of label) (size_of query.pattern) (point_of dx dy)) to_on)

  covered-to : (q : Point) → Covers (image_of query shape label base) q → IsImagePoint query shape label base q
  covered-to q (left, right, top, bottom) =
      let to = turned_size (symmetry_of label) (size_of query.pattern) in
      let ul = upper_left (symmetry_of label) shape (size_of query.pattern) base in
      let e : Point = point_of (q.x - ul.x) (q.y - ul.y) in
      let on : IsOnBoard to e = (omega arith, omega arith) in
      let d : Point = source label to e in
      let d_on : IsOnBoard (size_of query.pattern) d = inverse-turned (size_of query.pattern) to e on (symmetry_of label) below turned in
      let back : moved (symmetry_of label) (size_of query.pattern) d ≡ e = back-turned (size_of query.pattern) to e on (symmetry_of label) below turned in
      (d.x, d.y, d_on.0, d_on.1, there d d_on ∙ ap (offset ul) back ∙ same_point (offset ul e) q (omega arith) (omega arith))

  -- the cell of the turned pattern that a point of the pattern is moved to
  carried : (dx dy ex ey : ℕ) → dx < cols_of (size_of query.pattern) → dy < rows_of (size_of query.pattern) →
      image_point shape label base dx dy ≡ point_of ((image_of query shape label base).x + ex) ((image_of query shape label base).y + ey) →
      cell_in (turned_grid label query.pattern) ex ey ≡ labelled_cell label (cell_in (grid_of query.pattern) dx dy)
  carried dx dy ex ey column row is =
      let size = size_of query.pattern in
      let to = turned_size (symmetry_of label) size in
      let ul = upper_left (symmetry_of label) shape size base in
      let d : Point = point_of dx dy in
      let e : Point = moved (symmetry_of label) size d in
      let e_on : IsOnBoard to e = moved-turned size to d (column, row) (symmetry_of label) below turned in
      let same : offset ul e ≡ point_of (ul.x + ex) (ul.y + ey) = sym (there d (column, row)) ∙ is in
      let x : ul.x + e.x ≡ ul.x + ex = ap (λ (p : Point). p.x) same in
      let y : ul.y + e.y ≡ ul.y + ey = ap (λ (p : Point). p.y) same in
      let here : e ≡ point_of ex ey = same_point e (point_of ex ey) (omega (arith, x)) (omega (arith, y)) in
      let from : source label to e ≡ d = turned-back size to d (column, row) (symmetry_of label) below turned in
      ap (λ (p : Point). cell_in (turned_grid label query.pattern) p.x p.y) (sym here)
      ∙ grid_by-cell to (turned_cell label to (grid_of query.pattern)) e e_on
      ∙ ap (λ (p : Point). labelled_cell label (cell_in (grid_of query.pattern) p.x p.y)) from

  -- it is the image of the definition
  pub image_of-image : IsImage query shape base (image_of query shape label base)
  image_of-image = record {
    points = λ q. (covered-to q, covered-from q);
    count = grid_by-count (turned_size (symmetry_of label) (size_of query.pattern)) (turned_cell label (turned_size (symmetry_of label) (size_of query.pattern)) (grid_of query.pattern));
    cells = carried;
  }

-- ---- and no other placement is

-- the rectangle of points from a corner on
abbrev pub IsIn : (x y cols rows : ℕ) → Point → Type 0
IsIn x y cols rows q = (x ≤ q.x) × (q.x < x + cols) × (y ≤ q.y) × (q.y < y + rows)

-- two rectangles of the same points, of which there are some, are one
same_box : (x y cols rows x' y' cols' rows' : ℕ) → 1 ≤ cols' → 1 ≤ rows' →
    ((q : Point) → IsIn x y cols rows q → IsIn x' y' cols' rows' q) → ((q : Point) → IsIn x' y' cols' rows' q → IsIn x y cols rows q) →
    (x ≡ x') × (y ≡ y') × (cols ≡ cols') × (rows ≡ rows')
same_box x y cols rows x' y' cols' rows' column row there back =
    let first = back (point_of x' y') (omega arith, omega arith, omega arith, omega arith) in
    let last = back (point_of (x' + cols' - 1) (y' + rows' - 1)) (omega arith, omega arith, omega arith, omega arith) in
    let first' = there (point_of x y) (omega arith, omega arith, omega arith, omega arith) in
    let last' = there (point_of (x + cols - 1) (y + rows - 1)) (omega arith, omega arith, omega arith, omega arith) in
    (omega arith, omega arith, omega arith, omega arith)

pub same_placement : (a b : Placement) → a.label ≡ b.label → a.x ≡ b.x → a.y ≡ b.y → a.grid ≡ b.grid → a ≡ b
same_placement a b label x y grid =
    ap (λ n. record { label = n; x = a.x; y = a.y; grid = a.grid }) label
    ∙ ap (λ n. record { label = b.label; x = n; y = a.y; grid = a.grid }) x
    ∙ ap (λ n. record { label = b.label; x = b.x; y = n; grid = a.grid }) y
    ∙ ap (λ g. record { label = b.label; x = b.x; y = b.y; grid = g }) grid

module _ (query : Query) (shape : Shape) (base : Point) (placement : Placement) (fits : Fits shape (size_of query.pattern) base) (allowed : IsAllowed (symmetry_of placement.label) shape) (image : IsImage query shape base placement) where
  same_rectangle : (placement.x ≡ (image_of query shape placement.label base).x) × (placement.y ≡ (image_of query shape placement.label base).y)
      × (placement.grid.cols ≡ (turned_grid placement.label query.pattern).cols) × (placement.grid.rows ≡ (turned_grid placement.label query.pattern).rows)
  same_rectangle =
      let to = turned_size (symmetry_of placement.label) (size_of query.pattern) in
      let ul = upper_left (symmetry_of placement.label) shape (size_of query.pattern) base in
      same_box placement.x placement.y placement.grid.cols placement.grid.rows ul.x ul.y (cols_of to) (rows_of to) to.in_range.0.0 to.in_range.1.0
      (λ q h. covered-from query shape placement.label base fits allowed q ((image.points q).0 h))
      (λ q h. (image.points q).1 (covered-to query shape placement.label base fits allowed q h))

  same_cell_at : (p : Point) → IsOnBoard (turned_size (symmetry_of placement.label) (size_of query.pattern)) p →
      cell_in placement.grid p.x p.y ≡ turned_cell placement.label (turned_size (symmetry_of placement.label) (size_of query.pattern)) (grid_of query.pattern) p
  same_cell_at p on =
      let size = size_of query.pattern in
      let to = turned_size (symmetry_of placement.label) size in
      let n : ℕ = symmetry_of placement.label in
      let lt : n < 8 = mod-lt placement.label (omega arith) in
      let turned : IsTurned n size to = IsTurned-turned_size n size in
      let ul = upper_left n shape size base in
      let d : Point = source placement.label to p in
      let d_on : IsOnBoard size d = inverse-turned size to p on n lt turned in
      let at : image_point shape placement.label base d.x d.y ≡ point_of (placement.x + p.x) (placement.y + p.y) =
      there query shape placement.label base fits allowed d d_on
      ∙ ap (offset ul) (back-turned size to p on n lt turned)
      ∙ same_point (offset ul p) (point_of (placement.x + p.x) (placement.y + p.y)) (ap (λ m. m + p.x) (sym same_rectangle.0)) (ap (λ m. m + p.y) (sym same_rectangle.1)) in
      image.cells d.x d.y p.x p.y d_on.0 d_on.1 at

  -- a placement that is an image at a base place is the one above
  pub image-only : placement ≡ image_of query shape placement.label base
  image-only = same_placement placement (image_of query shape placement.label base) refl same_rectangle.0 same_rectangle.1
      (grid_by-only (turned_size (symmetry_of placement.label) (size_of query.pattern)) (turned_cell placement.label (turned_size (symmetry_of placement.label) (size_of query.pattern)) (grid_of query.pattern))
      placement.grid same_rectangle.2 same_rectangle.3 image.count same_cell_at)
