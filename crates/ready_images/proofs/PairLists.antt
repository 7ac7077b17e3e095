-- The lists of pairs of the classes.
use Rattle.std.proofs.Common.{◌≡◌, ℕ, ◌+◌, ◌-◌, ◌*◌, ◌<◌, inl, inr, Global, List, Vec, map, [], ◌∷◌, ◌++◌, drop, get_or, length, sym, ap, ◌∙◌, subst, arith}
use Rattle.std.specs.Prelude.{All, slice_index_or, slice_range}
use Rattle.std.proofs.lemmas.Bool.{cases_lt}
use Rattle.std.proofs.lemmas.Nat.{mul-add-lt}
use Rattle.std.proofs.lemmas.List.Elements.{All-push}
use Rattle.std.proofs.lemmas.List.{get_or-take, get_or_append_left, get_or_default, get_or-map, get_or_push, length-map, length-take, map-append}
use Rattle.kb_geometry.specs.declared.shape.Shape.{Shape}
use Rattle.kb_geometry.specs.Board.{cols_of}
use Rattle.pattern_images.specs.declared.cell.PatternCell.{PatternCell}
use Rattle.pattern_images.specs.declared.cell.PatternCell.TheVariants as kind
use Rattle.pattern_images.specs.Grid.{Grid, cell_in}
use Rattle.pattern_images.specs.ImageList.{ImageList, grid_at}
use Rattle.ready_images.specs.declared.pair.Pair.{Pair}
use Rattle.ready_images.specs.declared.want.Want.{Want}
use Rattle.ready_images.specs.declared.want_lists.ClassRange.{ClassRange}
use Rattle.ready_images.specs.Pairs.{IsPairIn, IsStoneIn, pairs_at}
use Rattle.ready_images.specs.Stored.{ArePairsOf}
use Rattle.ready_images.specs.StoredWants.{HasWantsOf, HaveWantsTo, IsRangeOf, wants_in}
use Rattle.ready_images.specs.Wants.{IsOfRank, IsWantIn, no_want}

-- one list more
pub lists-more : (P : ℕ → Pair → Type 0) (lists : List (List Pair)) (pairs : List Pair) (n : ℕ) → length lists ≡ n → ((c : ℕ) → c < n → All (P c) (pairs_at lists c)) → All (P n) pairs → (c : ℕ) → c < n + 1 → All (P c) (pairs_at (lists ++ pairs ∷ []) c)
lists-more P lists pairs n long so_far new c lt = elim (cases_lt c n) [
  | inl below ↦ subst (All (P c)) (sym (get_or_append_left lists (pairs ∷ []) [] c (omega (arith, below, long)))) (so_far c below)
  | inr last ↦
      let here : n ≡ c = omega (arith, lt, last) in
      subst (All (P c)) (sym (get_or_push lists pairs [] c (long ∙ here))) (subst (λ (m : ℕ). All (P m) pairs) here new)
]

-- so for the lists that vectors hold
pub vecs-more : (P : ℕ → Pair → Type 0) (vecs : List (Vec Pair Global)) (v : Vec Pair Global) (more : List (Vec Pair Global)) (n : ℕ) → length vecs ≡ n → ((c : ℕ) → c < n → All (P c) (pairs_at (map (λ (w : Vec Pair Global). w.items) vecs) c)) → more ≡ vecs ++ v ∷ [] → All (P n) v.items →
    (c : ℕ) → c < n + 1 → All (P c) (pairs_at (map (λ (w : Vec Pair Global). w.items) more) c)
vecs-more P vecs v more n long so_far pushed new c lt =
    let lists = map (λ (w : Vec Pair Global). w.items) vecs in
    let same : map (λ (w : Vec Pair Global). w.items) more ≡ map (λ (w : Vec Pair Global). w.items) vecs ++ v.items ∷ [] =
    ap (map (λ (w : Vec Pair Global). w.items)) pushed ∙ map-append (λ (w : Vec Pair Global). w.items) vecs (v ∷ []) in
    subst (λ (ls : List (List Pair)). All (P c) (pairs_at ls c)) (sym same)
    (lists-more P lists v.items n (length-map vecs (λ (w : Vec Pair Global). w.items) ∙ long) so_far new c lt)

-- the pairs of a class, as they are read
pub pairs-read : (images : ImageList) (vecs : List (Vec Pair Global)) (v : Vec Pair Global) (read : List Pair) (class k : ℕ) → ArePairsOf images (map (λ (w : Vec Pair Global). w.items) vecs) → k ≡ class → class < length images.grids → v ≡ get_or vecs k v → read ≡ v.items →
    All (IsPairIn images.shape (grid_at images.grids class)) read
pairs-read images vecs v read class k have same lt at eq =
    let below : class < length vecs = omega (arith, lt, have.count, length-map vecs (λ (w : Vec Pair Global). w.items)) in
    let here : v ≡ get_or vecs class v = at ∙ ap (λ (n : ℕ). get_or vecs n v) same in
    let list : read ≡ pairs_at (map (λ (w : Vec Pair Global). w.items) vecs) class =
    eq ∙ ap (λ (w : Vec Pair Global). w.items) here ∙ sym (get_or-map (λ (w : Vec Pair Global). w.items) vecs class v [] below) in
    subst (All (IsPairIn images.shape (grid_at images.grids class))) (sym list) (have.each class lt)

-- a place in the list of the stones
stones-below : (wants : List Want) (range : ClassRange) (k : ℕ) → k < length (slice_range wants range.start range.mixed) → k < range.mixed - range.start
stones-below wants range k lt = omega (arith, lt, length-take (range.mixed - range.start) (drop range.start wants))

-- the stones of a class
module _ (shape : Shape) (grid : Grid) (wants : List Want) (range : ClassRange) (is : IsRangeOf wants range) (has : HasWantsOf shape grid wants range) where
  abbrev stones : List Want
  stones = slice_range wants range.start range.mixed

  -- each is one of the wants
  stone-at : (k : ℕ) (d : Want) → k < range.mixed - range.start → slice_index_or stones k d ≡ slice_index_or (wants_in wants range) k d
  stone-at k d lt = get_or-take (range.mixed - range.start) (drop range.start wants) k d lt ∙ sym (get_or-take (range.end - range.start) (drop range.start wants) k d (omega (arith, lt, is.ordered, is.within)))

  pub stones-are : (k : ℕ) (d : Want) → k < range.mixed - range.start → IsWantIn shape grid (slice_index_or stones k d) × IsOfRank 0 (slice_index_or stones k d)
  stones-are k d lt =
      let inside : k < length (wants_in wants range) = omega (arith, lt, has.parted.ordered, has.parted.within) in
      let same = stone-at k d lt in (
        subst (IsWantIn shape grid) (sym same) (has.are.sound k d inside),
        subst (IsOfRank 0) (sym (same ∙ get_or_default (wants_in wants range) k d no_want inside)) (has.parted.of_stones k lt),
      )

-- the stones of a class, as they are read
pub class-stones : (images : ImageList) (classes : List ClassRange) (wants read : List Want) (class : ℕ) (range : ClassRange) → HaveWantsTo images.shape images.grids (length images.grids) classes wants → class < length images.grids → range ≡ slice_index_or classes class range → read ≡ wants →
    All (IsWantIn images.shape (grid_at images.grids class)) (slice_range read range.start range.mixed) × All (IsOfRank 0) (slice_range read range.start range.mixed)
class-stones images classes wants read class range have lt at eq =
    let grid = grid_at images.grids class in
    let is : IsRangeOf wants range = subst (IsRangeOf wants) (sym at) (have.within class range (omega (arith, lt, have.count))) in
    let has : HasWantsOf images.shape (grid_at images.grids class) wants range = subst (HasWantsOf images.shape (grid_at images.grids class) wants) (sym at) (have.each class range lt) in
    let told = stones-are images.shape (grid_at images.grids class) wants range is has in
    subst (λ (ws : List Want). All (IsWantIn images.shape (grid_at images.grids class)) (slice_range ws range.start range.mixed) × All (IsOfRank 0) (slice_range ws range.start range.mixed)) (sym eq) (
      λ k d below. (told k d (stones-below wants range k below)).0,
      λ k d below. (told k d (stones-below wants range k below)).1,
    )

-- a stone and an empty cell
pub pair-in : (shape : Shape) (grid : Grid) (stone x y empty : ℕ) → IsStoneIn shape grid stone → x < grid.cols → y < grid.rows → cell_in grid x y ≡ kind.Empty → empty ≡ y * cols_of shape + x → IsPairIn shape grid (record { stone = stone; empty = empty })
pair-in shape grid stone x y empty of in_cols in_rows cell at = (of, (x, y, in_cols, in_rows, (at, sym cell)))

-- an empty cell of the rectangle, as it is read
pub empty-read : (grid : Grid) (cells : List PatternCell) (x y at cols : ℕ) → cells ≡ grid.cells → length cells ≡ grid.cols * grid.rows → at ≡ y * cols + x → cols ≡ grid.cols → x < grid.cols → y < grid.rows → slice_index_or cells at kind.Empty ≡ kind.Empty → cell_in grid x y ≡ kind.Empty
empty-read grid cells x y at cols are count place wide in_cols in_rows read =
    let here : at ≡ y * grid.cols + x = place ∙ ap (λ (n : ℕ). y * n + x) wide in
    let inside : at < length cells = omega (arith, here, count, mul-add-lt y grid.cols x grid.rows in_rows in_cols) in
    ap (λ (k : ℕ). slice_index_or grid.cells k kind.Any) (sym here)
    ∙ ap (λ (cs : List PatternCell). slice_index_or cs at kind.Any) (sym are)
    ∙ get_or_default cells at kind.Any kind.Empty inside
    ∙ read

-- one pair more
pub pair-added : (shape : Shape) (grid : Grid) (stone empty : ℕ) (pairs more : List Pair) → All (IsPairIn shape grid) pairs → more ≡ pairs ++ record { stone = stone; empty = empty } ∷ [] → IsPairIn shape grid (record { stone = stone; empty = empty }) → All (IsPairIn shape grid) more
pair-added shape grid stone empty pairs more before is own = subst (All (IsPairIn shape grid)) (sym is) (All-push (IsPairIn shape grid) pairs (record { stone = stone; empty = empty }) before own)
