-- The rows of some next moves with those of more of them.
use Rattle.std.proofs.Common.{◌≡◌, ℕ, zero, suc, ◌+◌, ◌<◌, ◌≤◌, Bool, true, false, cond, List, [], ◌∷◌, ◌++◌, drop, get_or, length, length-append, set, refl, sym, ap, ◌∙◌, subst, arith}
use Rattle.std.specs.Prelude.{All, nat_eq, nat_lt}
use Rattle.std.specs.List.{insert}
use Rattle.std.proofs.lemmas.Bool.{eq-eqb, lt-ltb, ltb-true}
use Rattle.std.proofs.lemmas.List.{append-nil}
use Rattle.std.proofs.lemmas.List.Elements.{All-cons, All-head, All-nil, All-tail, filter-append}
use Rattle.game_tree.specs.declared.node.Move.{Move}
use Rattle.opening_tree.specs.declared.answer.NextMove.{NextMove}
use Rattle.opening_tree.specs.Groups.{IsRowWithin, row_order, row_with, with_more_row, with_more_rows}
use Rattle.opening_tree.specs.NextMoves.{NextAt}
use Rattle.kb_geometry.specs.Outcomes.{is_black_win, is_no_win, is_white_win}
use Rattle.opening_tree.specs.Openings.{is_same_play, nexts_by, row_of}
use Rattle.opening_tree.proofs.RowsGrow.{AreBehind, AreInOrder, IsHeadBehind, any_default, head-behind, no_eq, no_length, no_lt, order_of, rows_over}
use Rattle.opening_tree.proofs.SamePositions.{count_by-append}

-- all of some rows come behind this order
abbrev pub AreRowsBehind : ℕ → List NextMove → Type 0
AreRowsBehind k [] = Unit
AreRowsBehind k (r ∷ rs) = (k < row_order r) × AreRowsBehind k rs

rows-behind : (k : ℕ) (qs : List Move) (nexts : List NextAt) → AreBehind k qs → AreRowsBehind k (rows_over qs nexts)
rows-behind k [] nexts behind = tt
rows-behind k (q ∷ qs) nexts behind = by (nat_lt 0 (length (nexts_by q nexts))) behind.0 (rows-behind k qs nexts behind.1)
  where
    by : (b : Bool) → k < order_of q → AreRowsBehind k (rows_over qs nexts) → AreRowsBehind k (cond b (row_of q (nexts_by q nexts) ∷ rows_over qs nexts) (rows_over qs nexts))
    by true less rest = (less, rest)
    by false less rest = rest

-- ---- one row more

pub more_row-front : (rows : List NextMove) (m : NextMove) → IsHeadBehind (row_order m) rows → with_more_row rows m ≡ m ∷ rows
more_row-front [] m behind = refl
more_row-front (r ∷ rs) m behind =
    let ne : nat_eq (row_order r) (row_order m) ≡ false = no_eq (row_order r) (row_order m) (λ e. omega (arith, e, behind)) in
    let nl : nat_lt (row_order r) (row_order m) ≡ false = no_lt (row_order r) (row_order m) (λ lt. omega (arith, lt, behind)) in
    rw (ne, nl) refl

pub more_row-here : (r : NextMove) (rs : List NextMove) (m : NextMove) → row_order r ≡ row_order m → with_more_row (r ∷ rs) m ≡ row_with r m ∷ rs
more_row-here r rs m e = let eq : nat_eq (row_order r) (row_order m) ≡ true = eq-eqb (row_order r) (row_order m) e in rw eq refl

pub more_row-later : (r : NextMove) (rs : List NextMove) (m : NextMove) → row_order r < row_order m → with_more_row (r ∷ rs) m ≡ r ∷ with_more_row rs m
more_row-later r rs m lt =
    let ne : nat_eq (row_order r) (row_order m) ≡ false = no_eq (row_order r) (row_order m) (λ e. omega (arith, e, lt)) in
    let less : nat_lt (row_order r) (row_order m) ≡ true = lt-ltb (row_order r) (row_order m) lt in
    rw (ne, less) refl

-- rows that come behind a row are put in behind it
pub more_rows-later : (r : NextMove) (rs ms : List NextMove) → AreRowsBehind (row_order r) ms → with_more_rows (r ∷ rs) ms ≡ r ∷ with_more_rows rs ms
more_rows-later r rs [] behind = refl
more_rows-later r rs (m ∷ ms) behind = ap (λ xs. with_more_rows xs ms) (more_row-later r rs m behind.0) ∙ more_rows-later r (with_more_row rs m) ms behind.1

-- the row of some next moves, and more of them
row-join : (q : Move) (xs ys : List NextAt) → row_of q (xs ++ ys) ≡ row_with (row_of q xs) (row_of q ys)
row-join q xs ys =
    let count = length-append xs ys in
    let black = count_by-append (λ (x : NextAt). is_black_win x.outcome) xs ys in
    let white = count_by-append (λ (x : NextAt). is_white_win x.outcome) xs ys in
    let other = count_by-append (λ (x : NextAt). is_no_win x.outcome) xs ys in
    λ i. record { colour = q.colour; point = q.point; count = count i; black = black i; white = white i; other = other i }

-- ---- all rows

pub rows-join : (qs : List Move) → AreInOrder qs → (xs ys : List NextAt) → with_more_rows (rows_over qs xs) (rows_over qs ys) ≡ rows_over qs (xs ++ ys)
rows-join [] order xs ys = refl
rows-join (q ∷ qs) order xs ys =
    by (nat_lt 0 (length own)) (nat_lt 0 (length others)) refl refl (rows-join qs order.1 xs ys)
    ∙ sym (ap (λ zs. cond (nat_lt 0 (length zs)) (row_of q zs ∷ rows_over qs (xs ++ ys)) (rows_over qs (xs ++ ys))) grown)
  where
    own : List NextAt
    own = nexts_by q xs

    others : List NextAt
    others = nexts_by q ys

    grown : nexts_by q (xs ++ ys) ≡ nexts_by q xs ++ nexts_by q ys
    grown = filter-append (λ (x : NextAt). is_same_play q x.played) xs ys

    whole : List NextMove
    whole = rows_over qs (xs ++ ys)

    behind : AreRowsBehind (order_of q) (rows_over qs ys)
    behind = rows-behind (order_of q) qs ys order.0

    by : (b c : Bool) → nat_lt 0 (length (nexts_by q xs)) ≡ b → nat_lt 0 (length (nexts_by q ys)) ≡ c → with_more_rows (rows_over qs xs) (rows_over qs ys) ≡ rows_over qs (xs ++ ys)
        → with_more_rows (cond b (row_of q (nexts_by q xs) ∷ rows_over qs xs) (rows_over qs xs)) (cond c (row_of q (nexts_by q ys) ∷ rows_over qs ys) (rows_over qs ys))
        ≡ cond (nat_lt 0 (length (nexts_by q xs ++ nexts_by q ys))) (row_of q (nexts_by q xs ++ nexts_by q ys) ∷ rows_over qs (xs ++ ys)) (rows_over qs (xs ++ ys))
    by true true some more rest =
        let there : nat_lt 0 (length (nexts_by q xs ++ nexts_by q ys)) ≡ true = lt-ltb 0 (length (nexts_by q xs ++ nexts_by q ys)) (omega (arith, length-append (nexts_by q xs) (nexts_by q ys), ltb-true 0 (length (nexts_by q xs)) some)) in
        ap (λ rs. with_more_rows rs (rows_over qs ys)) (more_row-here (row_of q (nexts_by q xs)) (rows_over qs xs) (row_of q (nexts_by q ys)) refl)
        ∙ more_rows-later (row_with (row_of q (nexts_by q xs)) (row_of q (nexts_by q ys))) (rows_over qs xs) (rows_over qs ys) behind
        ∙ ap (λ rs. row_with (row_of q (nexts_by q xs)) (row_of q (nexts_by q ys)) ∷ rs) rest
        ∙ ap (λ r. r ∷ rows_over qs (xs ++ ys)) (sym (row-join q (nexts_by q xs) (nexts_by q ys)))
        ∙ sym (ap (λ b. cond b (row_of q (nexts_by q xs ++ nexts_by q ys) ∷ rows_over qs (xs ++ ys)) (rows_over qs (xs ++ ys))) there)
    by true false some none rest =
        let all : nexts_by q xs ++ nexts_by q ys ≡ nexts_by q xs = ap (λ zs. nexts_by q xs ++ zs) (no_length (nexts_by q ys) none) ∙ append-nil (nexts_by q xs) in
        more_rows-later (row_of q (nexts_by q xs)) (rows_over qs xs) (rows_over qs ys) behind
        ∙ ap (λ rs. row_of q (nexts_by q xs) ∷ rs) rest
        ∙ sym (ap (λ zs. cond (nat_lt 0 (length zs)) (row_of q zs ∷ rows_over qs (xs ++ ys)) (rows_over qs (xs ++ ys))) all ∙ ap (λ b. cond b (row_of q (nexts_by q xs) ∷ rows_over qs (xs ++ ys)) (rows_over qs (xs ++ ys))) some)
    by false true none some rest =
        let all : nexts_by q xs ++ nexts_by q ys ≡ nexts_by q ys = ap (λ zs. zs ++ nexts_by q ys) (no_length (nexts_by q xs) none) in
        ap (λ rs. with_more_rows rs (rows_over qs ys)) (more_row-front (rows_over qs xs) (row_of q (nexts_by q ys)) (head-behind (order_of q) qs xs order.0))
        ∙ more_rows-later (row_of q (nexts_by q ys)) (rows_over qs xs) (rows_over qs ys) behind
        ∙ ap (λ rs. row_of q (nexts_by q ys) ∷ rs) rest
        ∙ sym (ap (λ zs. cond (nat_lt 0 (length zs)) (row_of q zs ∷ rows_over qs (xs ++ ys)) (rows_over qs (xs ++ ys))) all ∙ ap (λ b. cond b (row_of q (nexts_by q ys) ∷ rows_over qs (xs ++ ys)) (rows_over qs (xs ++ ys))) some)
    by false false none nothing rest =
        let all : nexts_by q xs ++ nexts_by q ys ≡ [] = (λ i. no_length (nexts_by q xs) none i ++ no_length (nexts_by q ys) nothing i) in
        rest ∙ sym (ap (λ zs. cond (nat_lt 0 (length zs)) (row_of q zs ∷ rows_over qs (xs ++ ys)) (rows_over qs (xs ++ ys))) all)

-- ---- a row that is counted or put in where its order stands

-- so many first rows come before an order
abbrev AreBefore : ℕ → List NextMove → ℕ → Type 0
AreBefore k rows at = (j : ℕ) (d : NextMove) → j < at → row_order (get_or rows j d) < k

pub more_counted : (rows : List NextMove) (at : ℕ) (m row : NextMove) → at < length rows → AreBefore (row_order m) rows at → row ≡ get_or rows at row → row_order row ≡ row_order m → set rows at (row_with row m) ≡ with_more_row rows m
more_counted [] at m row lt before is same = absurd (omega (arith, lt))
more_counted (r ∷ rs) zero m row lt before is same =
    ap (λ (x : NextMove). row_with x m ∷ rs) is ∙ sym (more_row-here r rs m (sym (ap row_order is) ∙ same))
more_counted (r ∷ rs) (suc at) m row lt before is same =
    ap (λ (xs : List NextMove). r ∷ xs) (more_counted rs at m row (omega (arith, lt)) (λ j d below. before (suc j) d (omega (arith, below))) is same)
    ∙ sym (more_row-later r rs m (before 0 r (omega arith)))

pub more_begun : (rows : List NextMove) (at : ℕ) (m : NextMove) → at ≤ length rows → AreBefore (row_order m) rows at → ((d : NextMove) → at < length rows → row_order m < row_order (get_or rows at d)) → insert rows at m ≡ with_more_row rows m
more_begun [] zero m le before behind = refl
more_begun [] (suc at) m le before behind = absurd (omega (arith, le))
more_begun (r ∷ rs) zero m le before behind = sym (more_row-front (r ∷ rs) m (behind r (omega arith)))
more_begun (r ∷ rs) (suc at) m le before behind =
    ap (λ (xs : List NextMove). r ∷ xs) (more_begun rs at m (omega (arith, le)) (λ j d below. before (suc j) d (omega (arith, below))) (λ d below. behind d (omega (arith, below))))
    ∙ sym (more_row-later r rs m (before 0 r (omega arith)))

-- ---- rows only grow

module _ (most : ℕ) where
  abbrev within : List NextMove → Type 0
  within rows = All (IsRowWithin most) rows

  -- the row that is counted
  pub row-here : (rows : List NextMove) (at : ℕ) (row : NextMove) → at < length rows → within (set rows at row) → IsRowWithin most row
  row-here [] at row lt all = absurd (omega (arith, lt))
  row-here (r ∷ rs) zero row lt all = All-head (IsRowWithin most) row rs all
  row-here (r ∷ rs) (suc at) row lt all = row-here rs at row (omega (arith, lt)) (All-tail (IsRowWithin most) r (set rs at row) all)

  row-less : (r m : NextMove) → IsRowWithin most (row_with r m) → IsRowWithin most r
  row-less r m all = record {
    count = omega (arith, all.count);
    black = omega (arith, all.black);
    white = omega (arith, all.white);
    other = omega (arith, all.other);
  }

  row-fewer : (rows : List NextMove) (m : NextMove) → within (with_more_row rows m) → within rows
  row-fewer [] m all = All-nil (IsRowWithin most)
  row-fewer (r ∷ rs) m all = by (nat_eq (row_order r) (row_order m)) (nat_lt (row_order r) (row_order m)) all (row-fewer rs m)
    where
      by : (b c : Bool) → within (cond b (row_with r m ∷ rs) (cond c (r ∷ with_more_row rs m) (m ∷ r ∷ rs))) → (within (with_more_row rs m) → within rs) → within (r ∷ rs)
      by true c all rest = All-cons (IsRowWithin most) r rs (row-less r m (All-head (IsRowWithin most) (row_with r m) rs all)) (All-tail (IsRowWithin most) (row_with r m) rs all)
      by false true all rest = All-cons (IsRowWithin most) r rs (All-head (IsRowWithin most) r (with_more_row rs m) all) (rest (All-tail (IsRowWithin most) r (with_more_row rs m) all))
      by false false all rest = All-tail (IsRowWithin most) m (r ∷ rs) all

  pub rows-fewer : (rows ms : List NextMove) → within (with_more_rows rows ms) → within rows
  rows-fewer rows [] all = all
  rows-fewer rows (m ∷ ms) all = row-fewer rows m (rows-fewer (with_more_row rows m) ms all)

-- ---- rows one by one

pub drop-one : {X : Type 0} (xs : List X) (k : ℕ) (x : X) → k < length xs → x ≡ get_or xs k x → drop k xs ≡ x ∷ drop (k + 1) xs
drop-one [] k x lt is = absurd (omega (arith, lt))
drop-one (y ∷ ys) zero x lt is = ap (λ z. z ∷ ys) (sym is)
drop-one (y ∷ ys) (suc k) x lt is = let e : suc (k + 1) ≡ suc k + 1 = omega arith in drop-one ys k x (omega (arith, lt)) is ∙ ap (λ j. x ∷ drop j (y ∷ ys)) e

-- the row that comes next can be counted
pub rows-room : (most : ℕ) (before rows more : List NextMove) (k : ℕ) (d : NextMove) → All (IsRowWithin most) (with_more_rows before more) → with_more_rows rows (drop k more) ≡ with_more_rows before more → k < length more → All (IsRowWithin most) (with_more_row rows (get_or more k d))
rows-room most before rows more k d all same lt =
    rows-fewer most (with_more_row rows (get_or more k d)) (drop (k + 1) more)
    (subst (λ (rs : List NextMove). All (IsRowWithin most) rs) (sym same ∙ ap (with_more_rows rows) (drop-one more k (get_or more k d) lt (any_default more k d (get_or more k d) lt))) all)

pub rows-next : (before rows new more : List NextMove) (k : ℕ) (d : NextMove) → with_more_rows rows (drop k more) ≡ with_more_rows before more → k < length more → new ≡ with_more_row rows (get_or more k d) → with_more_rows new (drop (k + 1) more) ≡ with_more_rows before more
rows-next before rows new more k d same lt made =
    ap (λ rs. with_more_rows rs (drop (k + 1) more)) made
    ∙ sym (ap (with_more_rows rows) (drop-one more k (get_or more k d) lt (any_default more k d (get_or more k d) lt)))
    ∙ same
