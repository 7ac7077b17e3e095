-- The rows of a list among all rows: one more, one that is counted, and those that are left.
use Prim.Native.Nat.{zero}
use Rattle.std.proofs.Common.{◌≡◌, ◌≢◌, ℕ, suc, ◌+◌, ◌<◌, ◌≤◌, Bool, true, false, cond, inl, inr, List, [], ◌∷◌, ◌++◌, length, get_or, set, drop, refl, sym, ap, ◌∙◌, subst, arith}
use Rattle.std.specs.Prelude.{All, nat_eq, nat_lt, slice_index}
use Rattle.std.proofs.lemmas.Bool.{cases_eq, cases_lt, eq-eqb, eqb-true, lt-ltb}
use Rattle.std.proofs.lemmas.List.Elements.{All-cons, All-head, All-nil, All-tail}
use Rattle.opening_tree.specs.declared.answer.NextMove.{NextMove}
use Rattle.kb_geometry.specs.declared.stone.Outcome.{Outcome}
use Rattle.kb_geometry.specs.Counts.{one_if}
use Rattle.kb_geometry.specs.Outcomes.{is_black_win, is_no_win, is_white_win}
use Rattle.game_tree.specs.declared.node.Move.{Move}
use Rattle.opening_tree.specs.Groups.{IsRowWithin, no_row, play_order, row_order, row_with, row_with_one, with_more_row, with_row}
use Rattle.opening_tree.specs.RowLists.{IsNoRow, rows_from}
use Rattle.opening_tree.proofs.RowsGrow.{no_eq, no_lt}

-- ---- rows that are put in, in whichever order

here : (r : NextMove) (rs : List NextMove) (m : NextMove) → row_order r ≡ row_order m → with_more_row (r ∷ rs) m ≡ row_with r m ∷ rs
here r rs m e = let eq : nat_eq (row_order r) (row_order m) ≡ true = eq-eqb (row_order r) (row_order m) e in rw eq refl

later : (r : NextMove) (rs : List NextMove) (m : NextMove) → row_order r < row_order m → with_more_row (r ∷ rs) m ≡ r ∷ with_more_row rs m
later r rs m lt =
    let ne : nat_eq (row_order r) (row_order m) ≡ false = no_eq (row_order r) (row_order m) (λ e. omega (arith, e, lt)) in
    let less : nat_lt (row_order r) (row_order m) ≡ true = lt-ltb (row_order r) (row_order m) lt in
    rw (ne, less) refl

front : (r : NextMove) (rs : List NextMove) (m : NextMove) → row_order m < row_order r → with_more_row (r ∷ rs) m ≡ m ∷ r ∷ rs
front r rs m lt =
    let ne : nat_eq (row_order r) (row_order m) ≡ false = no_eq (row_order r) (row_order m) (λ e. omega (arith, e, lt)) in
    let nl : nat_lt (row_order r) (row_order m) ≡ false = no_lt (row_order r) (row_order m) (λ less. omega (arith, less, lt)) in
    rw (ne, nl) refl

-- which of two orders is less
data Compared (a b : ℕ) : Type 0 where
  comes_before : a < b → Compared a b
  comes_with : a ≡ b → Compared a b
  comes_behind : b < a → Compared a b

compared : (a b : ℕ) → Compared a b
compared a b = elim (cases_lt a b) [
  | inl lt ↦ comes_before lt
  | inr ge ↦ elim (cases_eq a b) [
    | inl e ↦ comes_with e
    | inr ne ↦ comes_behind (omega (arith, ge, ne))
  ]
]

row_with-assoc : (r x m : NextMove) → row_with r (row_with x m) ≡ row_with (row_with r x) m
row_with-assoc r x m =
    let count : r.count + (x.count + m.count) ≡ r.count + x.count + m.count = omega arith in
    let black : r.black + (x.black + m.black) ≡ r.black + x.black + m.black = omega arith in
    let white : r.white + (x.white + m.white) ≡ r.white + x.white + m.white = omega arith in
    let other : r.other + (x.other + m.other) ≡ r.other + x.other + m.other = omega arith in
    λ i. record { colour = r.colour; point = r.point; count = count i; black = black i; white = white i; other = other i }

-- a row that is counted before it is put in
pub more_row-with : (rows : List NextMove) (x m : NextMove) → row_order x ≡ row_order m → with_more_row rows (row_with x m) ≡ with_more_row (with_more_row rows x) m
more_row-with [] x m e = sym (here x [] m e)
more_row-with (r ∷ rs) x m e = elim (compared (row_order r) (row_order x)) [
  | comes_before lt ↦
      later r rs (row_with x m) lt ∙ ap (λ (ys : List NextMove). r ∷ ys) (more_row-with rs x m e)
      ∙ sym (ap (λ (ys : List NextMove). with_more_row ys m) (later r rs x lt) ∙ later r (with_more_row rs x) m (omega (arith, lt, e)))
  | comes_with is ↦
      here r rs (row_with x m) is ∙ ap (λ (y : NextMove). y ∷ rs) (row_with-assoc r x m)
      ∙ sym (ap (λ (ys : List NextMove). with_more_row ys m) (here r rs x is) ∙ here (row_with r x) rs m (is ∙ e))
  | comes_behind gt ↦
      front r rs (row_with x m) gt
      ∙ sym (ap (λ (ys : List NextMove). with_more_row ys m) (front r rs x gt) ∙ here x (r ∷ rs) m e)
]

-- two rows of other orders
pub more_row-either : (rows : List NextMove) (m y : NextMove) → row_order y ≢ row_order m → with_more_row (with_more_row rows m) y ≡ with_more_row (with_more_row rows y) m
more_row-either [] m y ne = elim (compared (row_order m) (row_order y)) [
  | comes_before lt ↦ later m [] y lt ∙ sym (front y [] m lt)
  | comes_with is ↦ absurd (ne (sym is))
  | comes_behind gt ↦ front m [] y gt ∙ sym (later y [] m gt)
]
more_row-either (r ∷ rs) m y ne = elim (compared (row_order r) (row_order m)) [
  | comes_before lt ↦ ap (λ (ys : List NextMove). with_more_row ys y) (later r rs m lt) ∙ elim (compared (row_order r) (row_order y)) [
    | comes_before lty ↦
        later r (with_more_row rs m) y lty ∙ ap (λ (ys : List NextMove). r ∷ ys) (more_row-either rs m y ne)
        ∙ sym (ap (λ (ys : List NextMove). with_more_row ys m) (later r rs y lty) ∙ later r (with_more_row rs y) m lt)
    | comes_with isy ↦
        here r (with_more_row rs m) y isy
        ∙ sym (ap (λ (ys : List NextMove). with_more_row ys m) (here r rs y isy) ∙ later (row_with r y) rs m lt)
    | comes_behind gty ↦
        front r (with_more_row rs m) y gty
        ∙ sym (ap (λ (ys : List NextMove). with_more_row ys m) (front r rs y gty) ∙ later y (r ∷ rs) m (omega (arith, lt, gty)) ∙ ap (λ (ys : List NextMove). y ∷ ys) (later r rs m lt))
  ]
  | comes_with is ↦ ap (λ (ys : List NextMove). with_more_row ys y) (here r rs m is) ∙ elim (compared (row_order r) (row_order y)) [
    | comes_before lty ↦
        later (row_with r m) rs y lty
        ∙ sym (ap (λ (ys : List NextMove). with_more_row ys m) (later r rs y lty) ∙ here r (with_more_row rs y) m is)
    | comes_with isy ↦ absurd (ne (sym isy ∙ is))
    | comes_behind gty ↦
        front (row_with r m) rs y gty
        ∙ sym (ap (λ (ys : List NextMove). with_more_row ys m) (front r rs y gty) ∙ later y (r ∷ rs) m (omega (arith, is, gty)) ∙ ap (λ (ys : List NextMove). y ∷ ys) (here r rs m is))
  ]
  | comes_behind gt ↦ ap (λ (ys : List NextMove). with_more_row ys y) (front r rs m gt) ∙ elim (compared (row_order r) (row_order y)) [
    | comes_before lty ↦
        later m (r ∷ rs) y (omega (arith, gt, lty)) ∙ ap (λ (ys : List NextMove). m ∷ ys) (later r rs y lty)
        ∙ sym (ap (λ (ys : List NextMove). with_more_row ys m) (later r rs y lty) ∙ front r (with_more_row rs y) m gt)
    | comes_with isy ↦
        later m (r ∷ rs) y (omega (arith, gt, isy)) ∙ ap (λ (ys : List NextMove). m ∷ ys) (here r rs y isy)
        ∙ sym (ap (λ (ys : List NextMove). with_more_row ys m) (here r rs y isy) ∙ front (row_with r y) rs m gt)
    | comes_behind gty ↦ elim (compared (row_order m) (row_order y)) [
      | comes_before lt ↦
          later m (r ∷ rs) y lt ∙ ap (λ (ys : List NextMove). m ∷ ys) (front r rs y gty)
          ∙ sym (ap (λ (ys : List NextMove). with_more_row ys m) (front r rs y gty) ∙ front y (r ∷ rs) m lt)
      | comes_with is ↦ absurd (ne (sym is))
      | comes_behind less ↦
          front m (r ∷ rs) y less
          ∙ sym (ap (λ (ys : List NextMove). with_more_row ys m) (front r rs y gty) ∙ later y (r ∷ rs) m less ∙ ap (λ (ys : List NextMove). y ∷ ys) (front r rs m gt))
    ]
  ]
]

-- a next move is put in as the row of it alone
pub row-as-more : (rows : List NextMove) (played : Move) (ended : Outcome) → with_row rows played ended ≡ with_more_row rows (row_with_one (no_row played) ended)
row-as-more [] played ended = refl
row-as-more (r ∷ rs) played ended = by (nat_eq (row_order r) (play_order played.colour played.point)) (nat_lt (row_order r) (play_order played.colour played.point)) (row-as-more rs played ended)
  where
    counted : row_with_one r ended ≡ row_with r (row_with_one (no_row played) ended)
    counted =
        let black : r.black + one_if (is_black_win ended) ≡ r.black + (0 + one_if (is_black_win ended)) = omega arith in
        let white : r.white + one_if (is_white_win ended) ≡ r.white + (0 + one_if (is_white_win ended)) = omega arith in
        let other : r.other + one_if (is_no_win ended) ≡ r.other + (0 + one_if (is_no_win ended)) = omega arith in
        λ i. record { colour = r.colour; point = r.point; count = r.count + 1; black = black i; white = white i; other = other i }

    by : (b c : Bool) → with_row rs played ended ≡ with_more_row rs (row_with_one (no_row played) ended)
        → cond b (row_with_one r ended ∷ rs) (cond c (r ∷ with_row rs played ended) (row_with_one (no_row played) ended ∷ r ∷ rs))
        ≡ cond b (row_with r (row_with_one (no_row played) ended) ∷ rs) (cond c (r ∷ with_more_row rs (row_with_one (no_row played) ended)) (row_with_one (no_row played) ended ∷ r ∷ rs))
    by true c rest = ap (λ (x : NextMove). x ∷ rs) counted
    by false true rest = ap (λ (xs : List NextMove). r ∷ xs) rest
    by false false rest = refl

-- ---- the rows of one list

module _ (list : ℕ) where
  -- no row of the list
  pub rows-none : (sofar rows : List NextMove) (lists : List ℕ) → ((k : ℕ) → k < length lists → slice_index lists k ≢ list) → rows_from list sofar rows lists ≡ sofar
  rows-none sofar [] lists none = refl
  rows-none sofar (r ∷ rs) [] none = refl
  rows-none sofar (r ∷ rs) (l ∷ ls) none =
      ap (λ b. rows_from list (cond b (with_more_row sofar r) sofar) rs ls) (no_eq l list (none 0 (omega arith)))
      ∙ rows-none sofar rs ls (λ k lt. none (suc k) (omega (arith, lt)))

  -- one row more
  pub rows-pushed : (sofar rows : List NextMove) (lists : List ℕ) (r : NextMove) (l : ℕ) → length rows ≡ length lists → rows_from list sofar (rows ++ r ∷ []) (lists ++ l ∷ []) ≡ cond (nat_eq l list) (with_more_row (rows_from list sofar rows lists) r) (rows_from list sofar rows lists)
  rows-pushed sofar [] [] r l long = refl
  rows-pushed sofar [] (k ∷ ks) r l long = absurd (omega (arith, long))
  rows-pushed sofar (x ∷ xs) [] r l long = absurd (omega (arith, long))
  rows-pushed sofar (x ∷ xs) (k ∷ ks) r l long = rows-pushed (cond (nat_eq k list) (with_more_row sofar x) sofar) xs ks r l (omega (arith, long))

  -- a row of another list is counted
  pub rows-other : (sofar rows : List NextMove) (lists : List ℕ) (at : ℕ) (x : NextMove) → at < length rows → length rows ≡ length lists → slice_index lists at ≢ list → rows_from list sofar (set rows at x) lists ≡ rows_from list sofar rows lists
  rows-other sofar [] lists at x lt long ne = refl
  rows-other sofar (r ∷ rs) [] at x lt long ne = absurd (omega (arith, long))
  rows-other sofar (r ∷ rs) (l ∷ ls) zero x lt long ne =
      ap (λ b. rows_from list (cond b (with_more_row sofar x) sofar) rs ls) (no_eq l list ne)
      ∙ sym (ap (λ b. rows_from list (cond b (with_more_row sofar r) sofar) rs ls) (no_eq l list ne))
  rows-other sofar (r ∷ rs) (l ∷ ls) (suc at) x lt long ne = rows-other (cond (nat_eq l list) (with_more_row sofar r) sofar) rs ls at x (omega (arith, lt)) (omega (arith, long)) ne

  rows-past : (sofar rows : List NextMove) (lists : List ℕ) (m : NextMove) → length rows ≡ length lists → IsNoRow list rows lists 0 (row_order m) → rows_from list (with_more_row sofar m) rows lists ≡ with_more_row (rows_from list sofar rows lists) m
  rows-past sofar [] lists m long none = refl
  rows-past sofar (r ∷ rs) [] m long none = refl
  rows-past sofar (r ∷ rs) (l ∷ ls) m long none =
      ap (λ (ys : List NextMove). rows_from list ys rs ls) (by (nat_eq l list) refl)
      ∙ rows-past (cond (nat_eq l list) (with_more_row sofar r) sofar) rs ls m (omega (arith, long)) (λ k d le lt is. none (suc k) d (omega arith) (omega (arith, lt)) is)
    where
      by : (b : Bool) → nat_eq l list ≡ b → cond b (with_more_row (with_more_row sofar m) r) (with_more_row sofar m) ≡ with_more_row (cond b (with_more_row sofar r) sofar) m
      by true e = more_row-either sofar m r (none 0 r (omega arith) (omega arith) (eqb-true l list e))
      by false e = refl

  -- a row of the list is counted
  pub rows-counted : (sofar rows : List NextMove) (lists : List ℕ) (at : ℕ) (x m : NextMove) → at < length rows → length rows ≡ length lists → slice_index lists at ≡ list → x ≡ get_or rows at x → row_order x ≡ row_order m → IsNoRow list rows lists (suc at) (row_order m)
      → rows_from list sofar (set rows at (row_with x m)) lists ≡ with_more_row (rows_from list sofar rows lists) m
  rows-counted sofar [] lists at x m lt long own is same none = absurd (omega (arith, lt))
  rows-counted sofar (r ∷ rs) [] at x m lt long own is same none = absurd (omega (arith, long))
  rows-counted sofar (r ∷ rs) (l ∷ ls) zero x m lt long own is same none =
      let eq : nat_eq l list ≡ true = eq-eqb l list own in
      ap (λ b. rows_from list (cond b (with_more_row sofar (row_with x m)) sofar) rs ls) eq
      ∙ ap (λ (ys : List NextMove). rows_from list ys rs ls) (more_row-with sofar x m same)
      ∙ rows-past (with_more_row sofar x) rs ls m (omega (arith, long)) (λ k d le below e. none (suc k) d (omega arith) (omega (arith, below)) e)
      ∙ ap (λ (y : NextMove). with_more_row (rows_from list (with_more_row sofar y) rs ls) m) is
      ∙ sym (ap (λ b. with_more_row (rows_from list (cond b (with_more_row sofar r) sofar) rs ls) m) eq)
  rows-counted sofar (r ∷ rs) (l ∷ ls) (suc at) x m lt long own is same none =
      rows-counted (cond (nat_eq l list) (with_more_row sofar r) sofar) rs ls at x m (omega (arith, lt)) (omega (arith, long)) own is same (λ k d le below e. none (suc k) d (omega (arith, le)) (omega (arith, below)) e)

  -- the rows from a number on, where none before another one is of the list
  pub rows-skipped : (sofar rows : List NextMove) (lists : List ℕ) (count : ℕ) → count ≤ length lists → length rows ≡ length lists → ((k : ℕ) → k < count → slice_index lists k ≢ list) → rows_from list sofar rows lists ≡ rows_from list sofar (drop count rows) (drop count lists)
  rows-skipped sofar rows lists zero le long none = refl
  rows-skipped sofar [] lists (suc count) le long none = absurd (omega (arith, le, long))
  rows-skipped sofar (r ∷ rs) [] (suc count) le long none = absurd (omega (arith, long))
  rows-skipped sofar (r ∷ rs) (l ∷ ls) (suc count) le long none =
      ap (λ b. rows_from list (cond b (with_more_row sofar r) sofar) rs ls) (no_eq l list (none 0 (omega arith)))
      ∙ rows-skipped sofar rs ls count (omega (arith, le)) (omega (arith, long)) (λ k lt. none (suc k) (omega (arith, lt)))

-- ---- rows within bounds

module _ (most : ℕ) where
  abbrev within : List NextMove → Type 0
  within rows = All (IsRowWithin most) rows

  less_row : (r m : NextMove) → IsRowWithin most (row_with r m) → IsRowWithin most r
  less_row r m all = record {
    count = omega (arith, all.count);
    black = omega (arith, all.black);
    white = omega (arith, all.white);
    other = omega (arith, all.other);
  }

  more_row : (r m : NextMove) → IsRowWithin most (row_with r m) → IsRowWithin most m
  more_row r m all = record {
    count = omega (arith, all.count);
    black = omega (arith, all.black);
    white = omega (arith, all.white);
    other = omega (arith, all.other);
  }

  put-before : (rows : List NextMove) (m : NextMove) → within (with_more_row rows m) → within rows
  put-before [] m all = All-nil (IsRowWithin most)
  put-before (r ∷ rs) m all = by (nat_eq (row_order r) (row_order m)) (nat_lt (row_order r) (row_order m)) all (put-before rs m)
    where
      by : (b c : Bool) → within (cond b (row_with r m ∷ rs) (cond c (r ∷ with_more_row rs m) (m ∷ r ∷ rs))) → (within (with_more_row rs m) → within rs) → within (r ∷ rs)
      by true c all rest = All-cons (IsRowWithin most) r rs (less_row r m (All-head (IsRowWithin most) (row_with r m) rs all)) (All-tail (IsRowWithin most) (row_with r m) rs all)
      by false true all rest = All-cons (IsRowWithin most) r rs (All-head (IsRowWithin most) r (with_more_row rs m) all) (rest (All-tail (IsRowWithin most) r (with_more_row rs m) all))
      by false false all rest = All-tail (IsRowWithin most) m (r ∷ rs) all

  put-row : (rows : List NextMove) (m : NextMove) → within (with_more_row rows m) → IsRowWithin most m
  put-row [] m all = All-head (IsRowWithin most) m [] all
  put-row (r ∷ rs) m all = by (nat_eq (row_order r) (row_order m)) (nat_lt (row_order r) (row_order m)) all (put-row rs m)
    where
      by : (b c : Bool) → within (cond b (row_with r m ∷ rs) (cond c (r ∷ with_more_row rs m) (m ∷ r ∷ rs))) → (within (with_more_row rs m) → IsRowWithin most m) → IsRowWithin most m
      by true c all rest = more_row r m (All-head (IsRowWithin most) (row_with r m) rs all)
      by false true all rest = rest (All-tail (IsRowWithin most) r (with_more_row rs m) all)
      by false false all rest = All-head (IsRowWithin most) m (r ∷ rs) all

  -- the rows that were put in before are within the bound
  pub sofar-within : (list : ℕ) (sofar rows : List NextMove) (lists : List ℕ) → within (rows_from list sofar rows lists) → within sofar
  sofar-within list sofar [] lists all = all
  sofar-within list sofar (r ∷ rs) [] all = all
  sofar-within list sofar (r ∷ rs) (l ∷ ls) all = by (nat_eq l list) (sofar-within list (cond (nat_eq l list) (with_more_row sofar r) sofar) rs ls all)
    where
      by : (b : Bool) → within (cond b (with_more_row sofar r) sofar) → within sofar
      by true put = put-before sofar r put
      by false put = put

  -- a row of the list is within the bound
  pub row-within : (list : ℕ) (sofar rows : List NextMove) (lists : List ℕ) (at : ℕ) (d : NextMove) → at < length rows → length rows ≡ length lists → slice_index lists at ≡ list → within (rows_from list sofar rows lists) → IsRowWithin most (get_or rows at d)
  row-within list sofar [] lists at d lt long own all = absurd (omega (arith, lt))
  row-within list sofar (r ∷ rs) [] at d lt long own all = absurd (omega (arith, long))
  row-within list sofar (r ∷ rs) (l ∷ ls) zero d lt long own all =
      put-row sofar r (sofar-within list (with_more_row sofar r) rs ls (subst (λ b. within (rows_from list (cond b (with_more_row sofar r) sofar) rs ls)) (eq-eqb l list own) all))
  row-within list sofar (r ∷ rs) (l ∷ ls) (suc at) d lt long own all = row-within list (cond (nat_eq l list) (with_more_row sofar r) sofar) rs ls at d (omega (arith, lt)) (omega (arith, long)) own all
