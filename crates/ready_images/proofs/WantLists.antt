-- The wants of classes, one list after another.
use Rattle.std.proofs.Common.{◌≡◌, ◌≢◌, ◌⊎◌, ℕ, suc, ◌+◌, ◌-◌, ◌*◌, ◌<◌, ◌≤◌, List, [], ◌∷◌, ◌++◌, length, get_or, take, drop, refl, sym, ap, ◌∙◌, arith, subst, inl, inr, append_assoc}
use Rattle.std.specs.Prelude.{All, Any}
use Rattle.std.proofs.lemmas.Bool.{cases_eq, cases_lt}
use Rattle.std.proofs.Math.Seq.{get_or-append_right}
use Rattle.std.proofs.lemmas.Nat.{mul-add-lt}
use Rattle.std.proofs.lemmas.List.{append-nil, length-append, length-drop, length_push, get_or_append_left, get_or_default, get_or_push, drop-append-le, take-append-le, drop_at, take_all}
use Rattle.std.proofs.lemmas.List.Elements.{All-append, All-cons, All-nil, All-push, All-weaker}
use Rattle.kb_geometry.specs.declared.shape.Shape.{Shape}
use Rattle.kb_geometry.specs.declared.shape.Point.{Point}
use Rattle.kb_geometry.specs.Board.{cols_of, number_of, rows_of}
use Rattle.kb_geometry.proofs.Lists.{Any-weaker}
use Rattle.pattern_images.specs.declared.cell.PatternCell.{PatternCell}
use Rattle.pattern_images.specs.declared.cell.PatternCell.TheVariants as kind
use Rattle.pattern_images.specs.Grid.{Grid, cell_in}
use Rattle.pattern_images.specs.ImageList.{grid_at}
use Rattle.pattern_images.proofs.Turned.{point-numbered}
use Rattle.ready_images.specs.declared.want.Want.{Want}
use Rattle.ready_images.specs.declared.want_lists.ClassRange.{ClassRange}
use Rattle.ready_images.specs.declared.want_lists.WantLists.{WantLists}
use Rattle.ready_images.specs.StoredWants.{AreClassWants, AreParted, ArePartedOn, AreWantsAdded, HasRank, HasWantsOf, HaveWantsTo, IsClassAdded, IsWantPut, IsRangeOf, IsWantWith, cell_with, grid_with, wants_in}
use Rattle.ready_images.specs.Wants.{AreWantsOf, IsOfRank, IsWantAt, IsWantIn, no_want, rank_of, want_at}

-- ---- some element of two lists
Any-left : {X : Type 0} (P : X → Type 0) (xs ys : List X) → Any P xs → Any P (xs ++ ys)
Any-left P xs ys (k, x, below, is, holds) = (k, x, omega (arith, length-append xs ys), get_or_append_left xs ys x k below ∙ is, holds)

Any-right : {X : Type 0} (P : X → Type 0) (xs ys : List X) → Any P ys → Any P (xs ++ ys)
Any-right P [] ys h = h
Any-right P (x ∷ xs) ys h = let (k, y, below, is, holds) = Any-right P xs ys h in (suc k, y, omega arith, is, holds)

-- the rectangle with the sides and the cells of another one is that one
pub grid_with-same : (size : Shape) (cells : List PatternCell) (grid : Grid) → cols_of size ≡ grid.cols → rows_of size ≡ grid.rows → cells ≡ grid.cells → grid_with size cells ≡ grid
grid_with-same size cells grid cols rows same =
    ap (λ n. record { cols = n; rows = rows_of size; cells = cells }) cols
    ∙ ap (λ n. record { cols = grid.cols; rows = n; cells = cells }) rows
    ∙ ap (λ l. record { cols = grid.cols; rows = grid.rows; cells = l }) same

-- ---- the wants of one class

-- a cell with a rank below that of wildcards is none
not-any : (c : PatternCell) → rank_of c ≤ 2 → c ≢ kind.Any
not-any c few is = let e : rank_of c ≡ 3 = ap rank_of is in omega (arith, few, e)

module _ (shape : Shape) (grid : Grid) where
  -- the want of the cell in a column and a row
  abbrev the_want : ℕ → ℕ → Want
  the_want dx dy = record { offset = dy * cols_of shape + dx; cell = cell_in grid dx dy }

  IsWantWith-at : (dx dy : ℕ) (size : Shape) → cols_of size ≡ grid.cols → rows_of size ≡ grid.rows → dx < cols_of size → dy < rows_of size →
      IsWantWith shape grid (dy * grid.cols + dx) (the_want dx dy)
  IsWantWith-at dx dy size cols rows column row = record {
    dx = dx;
    dy = dy;
    column = omega (arith, column, cols);
    row = omega (arith, row, rows);
    is = (refl, refl);
    only = λ ex ey in_cols in_rows e.
        let at : Point = record { x = dx; y = dy } in
        let p : Point = record { x = ex; y = ey } in
        let same : p ≡ at = point-numbered size (number_of size at) p (omega (arith, in_cols, cols), omega (arith, in_rows, rows)) (subst (λ (n : ℕ). ey * n + ex ≡ dy * n + dx) (sym cols) e)
        ∙ sym (point-numbered size (number_of size at) at (column, row) refl) in
        (ap (λ (q : Point). q.x) same, ap (λ (q : Point). q.y) same);
  }

  pub AreWantsAdded-none : (rank : ℕ) (IsAsked : ℕ → Type 0) (before : List Want) → ((k : ℕ) → ¬ IsAsked k) → AreWantsAdded shape grid rank IsAsked before before
  AreWantsAdded-none rank IsAsked before none = record {
    more = [];
    added = sym (append-nil before);
    sound = All-nil (IsWantIn shape grid);
    ranked = All-nil (IsOfRank rank);
    complete = λ k asked. absurd (none k asked);
  }

  AreWantsAdded-join : (rank : ℕ) (A B C : ℕ → Type 0) (before now later : List Want) → AreWantsAdded shape grid rank A before now → AreWantsAdded shape grid rank B now later → ((k : ℕ) → C k → A k ⊎ B k) → AreWantsAdded shape grid rank C before later
  AreWantsAdded-join rank A B C before now later a b parts = record {
    more = a.more ++ b.more;
    added = b.added ∙ ap (λ (ws : List Want). ws ++ b.more) a.added ∙ append_assoc before a.more b.more;
    sound = All-append (IsWantIn shape grid) a.more b.more a.sound b.sound;
    ranked = All-append (IsOfRank rank) a.more b.more a.ranked b.ranked;
    complete = λ k asked. elim (parts k asked) [
      | inl first ↦ Any-left (IsWantWith shape grid k) a.more b.more (a.complete k first)
      | inr second ↦ Any-right (IsWantWith shape grid k) a.more b.more (b.complete k second)
    ];
  }

  -- the cell with this number has the rank
  abbrev IsThis : ℕ → ℕ → ℕ → Type 0
  IsThis rank n k = (k ≡ n) × (rank_of (cell_with grid k) ≡ rank)

  module _ (rank : ℕ) (size : Shape) (cols : cols_of size ≡ grid.cols) (rows : rows_of size ≡ grid.rows) (dx dy : ℕ) (column : dx < cols_of size) (row : dy < rows_of size) where
    this-added : (now later : List Want) → IsWantPut rank (cell_in grid dx dy) (dy * cols_of shape + dx) now later → AreWantsAdded shape grid rank (IsThis rank (dy * grid.cols + dx)) now later
    this-added now later put = elim (cases_eq (rank_of (cell_in grid dx dy)) rank) [
      | inl has ↦
          let one : IsWantWith shape grid (dy * grid.cols + dx) (the_want dx dy) = IsWantWith-at dx dy size cols rows column row in
          record {
            more = the_want dx dy ∷ [];
            added = put.0 has;
            sound = All-cons (IsWantIn shape grid) (the_want dx dy) [] (one.dx, one.dy, one.column, one.row, one.is) (All-nil (IsWantIn shape grid));
            ranked = All-cons (IsOfRank rank) (the_want dx dy) [] has (All-nil (IsOfRank rank));
            complete = λ k this. (0, the_want dx dy, omega arith, refl, subst (λ (i : ℕ). IsWantWith shape grid i (the_want dx dy)) (sym this.0) one);
          }
      | inr other ↦
          subst (AreWantsAdded shape grid rank (IsThis rank (dy * grid.cols + dx)) now) (sym (put.1 other))
          (AreWantsAdded-none rank (IsThis rank (dy * grid.cols + dx)) now (λ k this. other (ap (λ (i : ℕ). rank_of (cell_with grid i)) (sym this.0) ∙ this.1)))
    ]

    -- one cell more
    AreWantsAdded-cell : (before now later : List Want) → AreWantsAdded shape grid rank (HasRank grid rank (dy * grid.cols + dx)) before now → IsWantPut rank (cell_in grid dx dy) (dy * cols_of shape + dx) now later →
        AreWantsAdded shape grid rank (HasRank grid rank (dy * grid.cols + dx + 1)) before later
    AreWantsAdded-cell before now later so_far put =
        AreWantsAdded-join rank (HasRank grid rank (dy * grid.cols + dx)) (IsThis rank (dy * grid.cols + dx)) (HasRank grid rank (dy * grid.cols + dx + 1)) before now later so_far (this-added now later put)
        (λ k has. elim (cases_lt k (dy * grid.cols + dx)) [ inl less ↦ inl (less, has.1) | inr from ↦ inr (omega (arith, has.0), has.1) ])

  -- nothing is parted yet
  pub AreParted-start : (before : List Want) (lists : WantLists) → lists.wants.items ≡ before → lists.mixed.items ≡ [] → lists.empties.items ≡ [] → AreParted shape grid 0 before lists
  AreParted-start before lists wants mixed empties = record {
    stones = subst (AreWantsAdded shape grid 0 (HasRank grid 0 0) before) (sym wants) (AreWantsAdded-none 0 (HasRank grid 0 0) before (λ k has. absurd (omega (arith, has.0))));
    mixed = subst (AreWantsAdded shape grid 1 (HasRank grid 1 0) []) (sym mixed) (AreWantsAdded-none 1 (HasRank grid 1 0) [] (λ k has. absurd (omega (arith, has.0))));
    empties = subst (AreWantsAdded shape grid 2 (HasRank grid 2 0) []) (sym empties) (AreWantsAdded-none 2 (HasRank grid 2 0) [] (λ k has. absurd (omega (arith, has.0))));
  }

  -- a cell of the list of cells is the one in its column and row
  pub IsWantPut-read : (rank : ℕ) (i j dx dy : ℕ) (d : PatternCell) (now later : List Want) → i ≡ dy * grid.cols + dx → i < length grid.cells → j ≡ dy * cols_of shape + dx →
      IsWantPut rank (get_or grid.cells i d) j now later → IsWantPut rank (cell_in grid dx dy) (dy * cols_of shape + dx) now later
  IsWantPut-read rank i j dx dy d now later at lt behind put =
      let read : get_or grid.cells i d ≡ cell_in grid dx dy = get_or_default grid.cells i d kind.Any lt ∙ ap (λ (n : ℕ). get_or grid.cells n kind.Any) at in
      subst (λ (c : PatternCell). IsWantPut rank c (dy * cols_of shape + dx) now later) read (subst (λ (n : ℕ). IsWantPut rank (get_or grid.cells i d) n now later) behind put)

  pub ArePartedOn-none : (n : ℕ) (lists : WantLists) → ArePartedOn shape grid n n lists lists
  ArePartedOn-none n lists before parted = parted

  -- one cell more
  pub ArePartedOn-more : (size : Shape) → cols_of size ≡ grid.cols → rows_of size ≡ grid.rows → (dx dy : ℕ) → dx < cols_of size → dy < rows_of size → (from : ℕ) (first lists later : WantLists) →
      ArePartedOn shape grid from (dy * grid.cols + dx) first lists → IsWantPut 0 (cell_in grid dx dy) (dy * cols_of shape + dx) lists.wants.items later.wants.items → IsWantPut 1 (cell_in grid dx dy) (dy * cols_of shape + dx) lists.mixed.items later.mixed.items → IsWantPut 2 (cell_in grid dx dy) (dy * cols_of shape + dx) lists.empties.items later.empties.items →
      ArePartedOn shape grid from (dy * grid.cols + dx + 1) first later
  ArePartedOn-more size cols rows dx dy column row from first lists later so_far stone mixed empty before parted =
      let here = so_far before parted in
      record {
        stones = AreWantsAdded-cell 0 size cols rows dx dy column row before lists.wants.items later.wants.items here.stones stone;
        mixed = AreWantsAdded-cell 1 size cols rows dx dy column row [] lists.mixed.items later.mixed.items here.mixed mixed;
        empties = AreWantsAdded-cell 2 size cols rows dx dy column row [] lists.empties.items later.empties.items here.empties empty;
      }

  -- each cell but wildcards has one of the ranks
  rank-of : (c : PatternCell) → c ≢ kind.Any → (rank_of c ≡ 0) ⊎ ((rank_of c ≡ 1) ⊎ (rank_of c ≡ 2))
  rank-of kind.Empty ne = inr (inr refl)
  rank-of kind.Black ne = inl refl
  rank-of kind.White ne = inl refl
  rank-of kind.NotWhite ne = inr (inl refl)
  rank-of kind.NotBlack ne = inr (inl refl)
  rank-of kind.Any ne = absurd (ne refl)

  -- the wants of the stones, behind them those of the cells that may be a stone, and behind those the
  -- ones of the empty points
  module _ (count : ℕ) (all : count ≡ grid.cols * grid.rows) (before : List Want) (lists : WantLists) (parted : AreParted shape grid count before lists) where
    abbrev stones : List Want
    stones = parted.stones.more

    abbrev mixed : List Want
    mixed = lists.mixed.items

    abbrev empties : List Want
    empties = lists.empties.items

    abbrev behind : List Want
    behind = mixed ++ empties

    mixed-sound : All (IsWantIn shape grid) mixed
    mixed-sound = subst (All (IsWantIn shape grid)) (sym parted.mixed.added) parted.mixed.sound

    empties-sound : All (IsWantIn shape grid) empties
    empties-sound = subst (All (IsWantIn shape grid)) (sym parted.empties.added) parted.empties.sound

    mixed-ranked : All (IsOfRank 1) mixed
    mixed-ranked = subst (All (IsOfRank 1)) (sym parted.mixed.added) parted.mixed.ranked

    empties-ranked : All (IsOfRank 2) empties
    empties-ranked = subst (All (IsOfRank 2)) (sym parted.empties.added) parted.empties.ranked

    all-ranked : All (λ (w : Want). w.cell ≢ kind.Any) (stones ++ behind)
    all-ranked =
        All-append (λ (w : Want). w.cell ≢ kind.Any) stones behind (All-weaker (IsOfRank 0) (λ (w : Want). w.cell ≢ kind.Any) (λ w r. not-any w.cell (omega (arith, r))) stones parted.stones.ranked)
        (All-append (λ (w : Want). w.cell ≢ kind.Any) mixed empties (All-weaker (IsOfRank 1) (λ (w : Want). w.cell ≢ kind.Any) (λ w r. not-any w.cell (omega (arith, r))) mixed mixed-ranked)
        (All-weaker (IsOfRank 2) (λ (w : Want). w.cell ≢ kind.Any) (λ w r. not-any w.cell (omega (arith, r))) empties empties-ranked))

    has-want : (k : ℕ) → k < count → (rank_of (cell_with grid k) ≡ 0) ⊎ ((rank_of (cell_with grid k) ≡ 1) ⊎ (rank_of (cell_with grid k) ≡ 2)) → Any (IsWantWith shape grid k) (stones ++ behind)
    has-want k lt (inl stone) = Any-left (IsWantWith shape grid k) stones behind (parted.stones.complete k (lt, stone))
    has-want k lt (inr (inl either)) = Any-right (IsWantWith shape grid k) stones behind (Any-left (IsWantWith shape grid k) mixed empties (subst (Any (IsWantWith shape grid k)) (sym parted.mixed.added) (parted.mixed.complete k (lt, either))))
    has-want k lt (inr (inr empty)) = Any-right (IsWantWith shape grid k) stones behind (Any-right (IsWantWith shape grid k) mixed empties (subst (Any (IsWantWith shape grid k)) (sym parted.empties.added) (parted.empties.complete k (lt, empty))))

    -- the ranks, place by place
    first-rank : (k : ℕ) → k < length stones → IsOfRank 0 (want_at (stones ++ behind) k)
    first-rank k lt = subst (IsOfRank 0) (sym (get_or_append_left stones behind no_want k lt)) (parted.stones.ranked k no_want lt)

    late : (k : ℕ) → length stones ≤ k → want_at (stones ++ behind) k ≡ want_at behind (k - length stones)
    late k from = get_or-append_right stones behind k no_want from

    second-rank : (k : ℕ) → length stones ≤ k → k < length stones + length mixed → IsOfRank 1 (want_at (stones ++ behind) k)
    second-rank k from lt =
        let below : k - length stones < length mixed = omega (arith, from, lt) in
        subst (IsOfRank 1) (sym (late k from ∙ get_or_append_left mixed empties no_want (k - length stones) below)) (mixed-ranked (k - length stones) no_want below)

    third-rank : (k : ℕ) → length stones + length mixed ≤ k → k < length (stones ++ behind) → IsOfRank 2 (want_at (stones ++ behind) k)
    third-rank k from lt =
        let last : want_at behind (k - length stones) ≡ want_at empties (k - length stones - length mixed) = get_or-append_right mixed empties (k - length stones) no_want (omega (arith, from)) in
        let below : k - length stones - length mixed < length empties = omega (arith, length-append stones behind, length-append mixed empties, lt, from) in
        subst (IsOfRank 2) (sym (late k (omega (arith, from)) ∙ last)) (empties-ranked (k - length stones - length mixed) no_want below)

    -- the ranks never fall
    ranks-rise : (j k : ℕ) → j < k → k < length (stones ++ behind) → rank_of (want_at (stones ++ behind) j).cell ≤ rank_of (want_at (stones ++ behind) k).cell
    ranks-rise j k less lt = elim (cases_lt k (length stones)) [
      | inl stone ↦ omega (arith, first-rank j (omega (arith, less, stone)), first-rank k stone)
      | inr other ↦ elim (cases_lt k (length stones + length mixed)) [
        | inl middle ↦ elim (cases_lt j (length stones)) [
          | inl early ↦ omega (arith, first-rank j early, second-rank k other middle)
          | inr same ↦ omega (arith, second-rank j same (omega (arith, less, middle)), second-rank k other middle)
        ]
        | inr high ↦ elim (cases_lt j (length stones)) [
          | inl early ↦ omega (arith, first-rank j early, third-rank k high lt)
          | inr later ↦ elim (cases_lt j (length stones + length mixed)) [
            | inl middle ↦ omega (arith, second-rank j later middle, third-rank k high lt)
            | inr end ↦ omega (arith, third-rank j end (omega (arith, less, lt)), third-rank k high lt)
          ]
        ]
      ]
    ]

    pub AreWantsOf-parted : AreWantsOf shape grid (stones ++ behind)
    AreWantsOf-parted = record {
      sound = All-append (IsWantIn shape grid) stones behind parted.stones.sound (All-append (IsWantIn shape grid) mixed empties mixed-sound empties-sound);
      asks = all-ranked;
      complete = λ dx dy in_cols in_rows asks.
          let k : ℕ = dy * grid.cols + dx in
          let lt : k < count = omega (arith, mul-add-lt dy grid.cols dx grid.rows in_rows in_cols, all) in
          Any-weaker (IsWantWith shape grid k) (IsWantAt shape grid dx dy)
          (λ want is.
          let same = is.only dx dy in_cols in_rows refl in
          subst (λ (x : ℕ). IsWantAt shape grid x dy want) (sym same.0) (subst (λ (y : ℕ). IsWantAt shape grid is.dx y want) (sym same.1) is.is))
          (stones ++ behind) (has-want k lt (rank-of (cell_in grid dx dy) asks));
      in_order = ranks-rise;
    }

    pub AreClassWants-parted : (m e : ℕ) → m ≡ length stones → e ≡ length stones + length mixed → AreClassWants shape grid m e (stones ++ behind)
    AreClassWants-parted m e first second = record {
      are = AreWantsOf-parted;
      parted = record {
        ordered = omega (arith, first, second);
        within = omega (arith, second, length-append stones behind, length-append mixed empties);
        of_stones = λ k lt. first-rank k (omega (arith, lt, first));
        of_empties = λ k from lt. third-rank k (omega (arith, from, second)) lt;
      };
    }

-- ---- the wants of all classes

-- more wants behind the list change no range
wants_in-kept : (wants more : List Want) (range : ClassRange) → IsRangeOf wants range → wants_in wants range ≡ wants_in (wants ++ more) range
wants_in-kept wants more range within =
    let start : range.start ≤ length wants = omega (arith, within.stones, within.ordered, within.within, within.ends) in
    let count : range.end - range.start ≤ length (drop range.start wants) = omega (arith, length-drop range.start wants, within.ends) in
    sym (ap (take (range.end - range.start)) (drop-append-le range.start wants more start) ∙ take-append-le (range.end - range.start) (drop range.start wants) more count)

-- the range of what is appended
wants_in-last : (wants more : List Want) (range : ClassRange) → range.start ≡ length wants → range.end ≡ length (wants ++ more) → wants_in (wants ++ more) range ≡ more
wants_in-last wants more range from to =
    ap (take (range.end - range.start)) (drop_at wants more range.start (sym from)) ∙ take_all (range.end - range.start) more (omega (arith, length-append wants more))

module _ (shape : Shape) (grids : List Grid) where
  -- the range has the wants of a class
  abbrev HasClass : ℕ → List Want → ClassRange → Type 0
  HasClass k wants range = HasWantsOf shape (grid_at grids k) wants range

  pub HaveWantsTo-start : (ranges : List ClassRange) (wants : List Want) → ranges ≡ [] → HaveWantsTo shape grids 0 ranges wants
  HaveWantsTo-start ranges wants none = record {
    count = ap length none;
    within = subst (All (IsRangeOf wants)) (sym none) (All-nil (IsRangeOf wants));
    each = λ k d lt. absurd (omega arith);
  }

  pub HaveWantsTo-more : (n : ℕ) (ranges later : List ClassRange) (wants now : List Want) (range : ClassRange) → HaveWantsTo shape grids n ranges wants → IsClassAdded shape (grid_at grids n) range wants now →
      later ≡ ranges ++ range ∷ [] → HaveWantsTo shape grids (n + 1) later now
  HaveWantsTo-more n ranges later wants now range have class pushed =
      let more : List Want = class.more in
      let added : now ≡ wants ++ more = class.added in
      let longer : length now ≡ length wants + length more = ap length added ∙ length-append wants more in
      let kept : All (IsRangeOf now) ranges = All-weaker (IsRangeOf wants) (IsRangeOf now) (λ r w. record { stones = w.stones; ordered = w.ordered; within = w.within; ends = omega (arith, w.ends, longer) }) ranges have.within in
      record {
        count = ap length pushed ∙ length_push ranges range ∙ ap (λ (i : ℕ). i + 1) have.count;
        within = subst (All (IsRangeOf now)) (sym pushed) (All-push (IsRangeOf now) ranges range kept (record {
          stones = class.behind;
          ordered = class.ordered;
          within = omega (arith, class.wants.parted.within, class.behind, class.ordered, class.from, class.to, longer);
          ends = omega (arith, class.to);
        }));
        each = λ k d lt. subst (λ (rs : List ClassRange). HasClass k now (get_or rs k d)) (sym pushed) (elim (cases_lt k n) [
          | inl below ↦
              let same : get_or (ranges ++ range ∷ []) k d ≡ get_or ranges k d = get_or_append_left ranges (range ∷ []) d k (omega (arith, have.count)) in
              let old : ClassRange = get_or ranges k d in
              let here : wants_in now (get_or ranges k d) ≡ wants_in wants (get_or ranges k d) =
              ap (λ (ws : List Want). wants_in ws (get_or ranges k d)) added
              ∙ sym (wants_in-kept wants more (get_or ranges k d) (have.within k d (omega (arith, have.count)))) in
              subst (HasClass k now) (sym same) (subst (AreClassWants shape (grid_at grids k) ((get_or ranges k d).mixed - (get_or ranges k d).start) ((get_or ranges k d).empties - (get_or ranges k d).start)) (sym here) (have.each k d below))
          | inr last ↦
              let here : n ≡ k = omega arith in
              let at : get_or (ranges ++ range ∷ []) k d ≡ range = get_or_push ranges range d k (have.count ∙ here) in
              let last_wants : wants_in now range ≡ more =
              ap (λ (ws : List Want). wants_in ws range) added ∙ wants_in-last wants more range class.from (class.to ∙ ap length added) in
              subst (HasClass k now) (sym at) (subst (AreClassWants shape (grid_at grids k) (range.mixed - range.start) (range.empties - range.start)) (sym last_wants)
              (subst (λ (i : ℕ). AreClassWants shape (grid_at grids i) (range.mixed - range.start) (range.empties - range.start) more) here class.wants))
        ]);
      }
