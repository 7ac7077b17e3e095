-- Rectangles of cells in one list: what is appended changes none of them.
use Rattle.std.proofs.Common.{◌≡◌, ℕ, ◌-◌, ◌≤◌, ◌↔◌, Bool, true, List, [], ◌∷◌, ◌++◌, length, map, take, drop, refl, sym, ap, ◌∙◌, arith}
use Rattle.std.specs.Prelude.{◌&&◌, All, IsTrue, nat_eq, slice_range}
use Rattle.std.specs.Bool.{Decides}
use Rattle.std.proofs.lemmas.Bool.{and_parts, eqb-true}
use Rattle.std.proofs.lemmas.List.{length-drop, map-append, drop-append-le, take-append-le, drop_at, take_all}
use Rattle.std.proofs.lemmas.List.Elements.{All-head, All-tail, All-weaker}
use Rattle.kb_geometry.specs.declared.shape.Shape.{Shape}
use Rattle.kb_geometry.specs.Board.{cols_of, rows_of, point_count}
use Rattle.pattern_images.specs.declared.cell.PatternCell.{PatternCell}
use Rattle.pattern_images.specs.declared.grids.StoredGrid.{StoredGrid}
use Rattle.pattern_images.specs.Grid.{Grid}
use Rattle.pattern_images.specs.Stored.{end_of, stored_grid}
use Rattle.pattern_images.proofs.Turned.{same_grid}

-- two functions that agree at each element of a list
map_agree : {X Y : Type 0} (f g : X → Y) (xs : List X) → All (λ x. f x ≡ g x) xs → map f xs ≡ map g xs
map_agree f g [] same = refl
map_agree f g (x ∷ xs) same = ap (λ y. y ∷ map f xs) (All-head (λ x. f x ≡ g x) x xs same) ∙ ap (λ ys. g x ∷ ys) (map_agree f g xs (All-tail (λ x. f x ≡ g x) x xs same))

stored_grid-kept : (cells more : List PatternCell) (s : StoredGrid) → end_of s ≤ length cells → stored_grid cells s ≡ stored_grid (cells ++ more) s
stored_grid-kept cells more s within =
    let start : s.start ≤ length cells = omega arith in
    let count : end_of s - s.start ≤ length (drop s.start cells) = omega (arith, length-drop s.start cells) in
    let same : slice_range cells s.start (end_of s) ≡ slice_range (cells ++ more) s.start (end_of s) =
    sym (ap (take (end_of s - s.start)) (drop-append-le s.start cells more start) ∙ take-append-le (end_of s - s.start) (drop s.start cells) more count) in
    ap (λ c. record { cols = cols_of s.size; rows = rows_of s.size; cells = c }) same

-- one rectangle more, behind the others
pub stored_grid-push : (cells more : List PatternCell) (stored : List StoredGrid) (size : Shape) → All (λ s. end_of s ≤ length cells) stored → length more ≡ point_count size →
    map (stored_grid (cells ++ more)) (stored ++ record { size = size; start = length cells } ∷ []) ≡ map (stored_grid cells) stored ++ record { cols = cols_of size; rows = rows_of size; cells = more } ∷ []
stored_grid-push cells more stored size within count =
    let s : StoredGrid = record { size = size; start = length cells } in
    let last : slice_range (cells ++ more) s.start (end_of s) ≡ more = ap (take (end_of s - s.start)) (drop_at cells more (length cells) refl) ∙ take_all (end_of s - s.start) more (omega arith) in
    map-append (stored_grid (cells ++ more)) stored (s ∷ [])
    ∙ ap (λ grids. grids ++ stored_grid (cells ++ more) s ∷ []) (sym (map_agree (stored_grid cells) (stored_grid (cells ++ more)) stored
    (All-weaker (λ s. end_of s ≤ length cells) (λ s. stored_grid cells s ≡ stored_grid (cells ++ more) s) (stored_grid-kept cells more) stored within)))
    ∙ ap (λ c. map (stored_grid cells) stored ++ record { cols = cols_of size; rows = rows_of size; cells = c } ∷ []) last

pub stored_grid-pushed : (cells more cells' : List PatternCell) (stored stored' : List StoredGrid) (size : Shape) (start : ℕ) →
    All (λ s. end_of s ≤ length cells) stored → length more ≡ point_count size → start ≡ length cells →
    cells' ≡ cells ++ more → stored' ≡ stored ++ record { size = size; start = start } ∷ [] →
    map (stored_grid cells') stored' ≡ map (stored_grid cells) stored ++ record { cols = cols_of size; rows = rows_of size; cells = more } ∷ []
stored_grid-pushed cells more cells' stored stored' size start within count from cells_are stored_are =
    ap (λ c. map (stored_grid c) stored') cells_are
    ∙ ap (λ s. map (stored_grid (cells ++ more)) s) stored_are
    ∙ ap (λ n. map (stored_grid (cells ++ more)) (stored ++ record { size = size; start = n } ∷ [])) from
    ∙ stored_grid-push cells more stored size within count

-- the tests of the sides and of the cells tell whether a rectangle is the one that is looked for
pub grid_is : (grid : Grid) (at size : Shape) (read cells : List PatternCell) (r : Bool) →
    cols_of at ≡ grid.cols → rows_of at ≡ grid.rows → read ≡ grid.cells → true ≡ nat_eq (cols_of at) (cols_of size) && nat_eq (rows_of at) (rows_of size) →
    Decides r (read ≡ cells) → IsTrue r ↔ (grid ≡ record { cols = cols_of size; rows = rows_of size; cells = cells })
grid_is grid at size read cells r cols rows are sides decides =
    let both = and_parts (nat_eq (cols_of at) (cols_of size)) (nat_eq (rows_of at) (rows_of size)) (sym sides) in (
      (λ is. same_grid grid (record { cols = cols_of size; rows = rows_of size; cells = cells }) (sym cols ∙ eqb-true (cols_of at) (cols_of size) both.0) (sym rows ∙ eqb-true (rows_of at) (rows_of size) both.1) (sym are ∙ decides.0 is)),
      (λ is. decides.1 (are ∙ ap (λ (g : Grid). g.cells) is)),
    )
