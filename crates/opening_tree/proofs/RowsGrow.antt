-- The rows of next moves, one next move more.
use Rattle.std.proofs.Common.{◌≡◌, ◌≢◌, ℕ, zero, suc, ◌<◌, ◌⊎◌, inl, inr, Bool, true, false, cond, List, [], ◌∷◌, ◌++◌, length, length-append, get_or, map, refl, sym, ap, ◌∙◌, subst, arith}
use Rattle.std.specs.Prelude.{filter, nat_eq, nat_lt}
use Rattle.std.proofs.lemmas.Bool.{eq-eqb, false_from_ne_true, false≢true, eqb-true, lt-ltb, ltb-true}
use Rattle.std.proofs.lemmas.List.{append-nil}
use Rattle.kb_geometry.specs.declared.stone.Outcome.{Outcome}
use Rattle.game_tree.specs.declared.node.Move.{Move}
use Rattle.opening_tree.specs.declared.answer.NextMove.{NextMove}
use Rattle.opening_tree.specs.Groups.{no_row, play_order, row_order, row_with_one, with_row}
use Rattle.opening_tree.specs.NextMoves.{NextAt}
use Rattle.kb_geometry.specs.Outcomes.{is_black_win, is_no_win, is_white_win}
use Rattle.opening_tree.specs.Openings.{is_same_play, nexts_by, row_of}
use Rattle.opening_tree.proofs.SamePositions.{count_by-push, filter-push, own_play, same_play, told}

-- ---- moves in order

abbrev pub order_of : Move → ℕ
order_of m = play_order m.colour m.point

-- all of some moves come behind this order
abbrev pub AreBehind : ℕ → List Move → Type 0
AreBehind k [] = Unit
AreBehind k (q ∷ qs) = (k < order_of q) × AreBehind k qs

-- some moves in order
abbrev pub AreInOrder : List Move → Type 0
AreInOrder [] = Unit
AreInOrder (q ∷ qs) = AreBehind (order_of q) qs × AreInOrder qs

abbrev pub IsOneOf : Move → List Move → Type 0
IsOneOf m [] = ⊥
IsOneOf m (q ∷ qs) = (q ≡ m) ⊎ IsOneOf m qs

behind-one : (k : ℕ) (m : Move) (qs : List Move) → AreBehind k qs → IsOneOf m qs → k < order_of m
behind-one k m [] behind is = absurd is
behind-one k m (q ∷ qs) behind (inl e) = subst (λ (x : Move). k < order_of x) e behind.0
behind-one k m (q ∷ qs) behind (inr later) = behind-one k m qs behind.1 later

-- a move that comes before another one isn't that one
other_play : (a b : Move) → order_of a ≢ order_of b → is_same_play a b ≡ false
other_play a b ne = false_from_ne_true (is_same_play a b) (λ e. ne (ap order_of (same_play a b e)))

-- ---- rows

-- the rows of some plays
abbrev pub rows_over : List Move → List NextAt → List NextMove
rows_over plays nexts =
    filter (λ (row : NextMove). nat_lt 0 row.count)
    (map (λ (play : Move). row_of play (nexts_by play nexts)) plays)

-- the first row, if there is one, comes behind this order
abbrev pub IsHeadBehind : ℕ → List NextMove → Type 0
IsHeadBehind k [] = Unit
IsHeadBehind k (r ∷ rs) = k < row_order r

pub head-behind : (k : ℕ) (qs : List Move) (nexts : List NextAt) → AreBehind k qs → IsHeadBehind k (rows_over qs nexts)
head-behind k [] nexts behind = tt
head-behind k (q ∷ qs) nexts behind = by (nat_lt 0 (length (nexts_by q nexts))) behind.0 (head-behind k qs nexts behind.1)
  where
    by : (b : Bool) → k < order_of q → IsHeadBehind k (rows_over qs nexts) → IsHeadBehind k (cond b (row_of q (nexts_by q nexts) ∷ rows_over qs nexts) (rows_over qs nexts))
    by true less rest = less
    by false less rest = rest

pub no_eq : (a b : ℕ) → a ≢ b → nat_eq a b ≡ false
no_eq a b ne = false_from_ne_true (nat_eq a b) (λ e. ne (eqb-true a b e))

pub no_lt : (a b : ℕ) → ¬ (a < b) → nat_lt a b ≡ false
no_lt a b not = false_from_ne_true (nat_lt a b) (λ e. not (ltb-true a b e))

-- a new row in front of rows that come behind it
with_row-front : (rows : List NextMove) (m : Move) (o : Outcome) → IsHeadBehind (order_of m) rows → with_row rows m o ≡ row_with_one (no_row m) o ∷ rows
with_row-front [] m o behind = refl
with_row-front (r ∷ rs) m o behind =
    let ne : nat_eq (row_order r) (order_of m) ≡ false = no_eq (row_order r) (order_of m) (λ e. omega (arith, e, behind)) in
    let nl : nat_lt (row_order r) (order_of m) ≡ false = no_lt (row_order r) (order_of m) (λ lt. omega (arith, lt, behind)) in
    rw (ne, nl) refl

with_row-here : (r : NextMove) (rs : List NextMove) (m : Move) (o : Outcome) → row_order r ≡ order_of m → with_row (r ∷ rs) m o ≡ row_with_one r o ∷ rs
with_row-here r rs m o e = let eq : nat_eq (row_order r) (order_of m) ≡ true = eq-eqb (row_order r) (order_of m) e in rw eq refl

with_row-later : (r : NextMove) (rs : List NextMove) (m : Move) (o : Outcome) → row_order r < order_of m → with_row (r ∷ rs) m o ≡ r ∷ with_row rs m o
with_row-later r rs m o lt =
    let ne : nat_eq (row_order r) (order_of m) ≡ false = no_eq (row_order r) (order_of m) (λ e. omega (arith, e, lt)) in
    let less : nat_lt (row_order r) (order_of m) ≡ true = lt-ltb (row_order r) (order_of m) lt in
    rw (ne, less) refl

-- a row of one next move more
row-push : (q : Move) (xs : List NextAt) (n : NextAt) → row_of q (xs ++ n ∷ []) ≡ row_with_one (row_of q xs) n.outcome
row-push q xs n =
    let count = length-append xs (n ∷ []) in
    let black = count_by-push (λ (x : NextAt). is_black_win x.outcome) xs n in
    let white = count_by-push (λ (x : NextAt). is_white_win x.outcome) xs n in
    let other = count_by-push (λ (x : NextAt). is_no_win x.outcome) xs n in
    λ i. record { colour = q.colour; point = q.point; count = count i; black = black i; white = white i; other = other i }

nexts_by-other : (q : Move) (nexts : List NextAt) (n : NextAt) → is_same_play q n.played ≡ false → nexts_by q (nexts ++ n ∷ []) ≡ nexts_by q nexts
nexts_by-other q nexts n e = filter-push (λ (x : NextAt). is_same_play q x.played) nexts n false e ∙ append-nil (nexts_by q nexts)

nexts_by-own : (q : Move) (nexts : List NextAt) (n : NextAt) → is_same_play q n.played ≡ true → nexts_by q (nexts ++ n ∷ []) ≡ nexts_by q nexts ++ n ∷ []
nexts_by-own q nexts n e = filter-push (λ (x : NextAt). is_same_play q x.played) nexts n true e

-- rows of other plays stay
rows-same : (qs : List Move) (nexts : List NextAt) (n : NextAt) → AreBehind (order_of n.played) qs → rows_over qs (nexts ++ n ∷ []) ≡ rows_over qs nexts
rows-same [] nexts n behind = refl
rows-same (q ∷ qs) nexts n behind =
    let same = nexts_by-other q nexts n (other_play q n.played (λ e. omega (arith, e, behind.0))) in
    let rest = rows-same qs nexts n behind.1 in
    λ i. cond (nat_lt 0 (length (same i))) (row_of q (same i) ∷ rest i) (rest i)

pub no_length : (xs : List NextAt) → nat_lt 0 (length xs) ≡ false → xs ≡ []
no_length [] e = refl
no_length (x ∷ xs) e = absurd (false≢true (sym e ∙ lt-ltb 0 (suc (length xs)) (omega arith)))

-- one next move more of one of the plays
pub rows-grow : (qs : List Move) → AreInOrder qs → (nexts : List NextAt) (n : NextAt) → IsOneOf n.played qs → with_row (rows_over qs nexts) n.played n.outcome ≡ rows_over qs (nexts ++ n ∷ [])
rows-grow [] order nexts n is = absurd is
rows-grow (q ∷ qs) order nexts n (inl e) = old ∙ sym new
  where
    same_order : order_of q ≡ order_of n.played
    same_order = ap order_of e

    behind : AreBehind (order_of n.played) qs
    behind = subst (λ k. AreBehind k qs) same_order order.0

    grown : nexts_by q (nexts ++ n ∷ []) ≡ nexts_by q nexts ++ n ∷ []
    grown = nexts_by-own q nexts n (subst (λ (x : Move). is_same_play q x ≡ true) e (own_play q))

    some : nat_lt 0 (length (nexts_by q nexts ++ n ∷ [])) ≡ true
    some = lt-ltb 0 (length (nexts_by q nexts ++ n ∷ [])) (omega (arith, length-append (nexts_by q nexts) (n ∷ [])))

    new : rows_over (q ∷ qs) (nexts ++ n ∷ []) ≡ row_with_one (row_of q (nexts_by q nexts)) n.outcome ∷ rows_over qs nexts
    new =
        ap (λ ys. cond (nat_lt 0 (length ys)) (row_of q ys ∷ rows_over qs (nexts ++ n ∷ [])) (rows_over qs (nexts ++ n ∷ []))) grown
        ∙ ap (λ b. cond b (row_of q (nexts_by q nexts ++ n ∷ []) ∷ rows_over qs (nexts ++ n ∷ [])) (rows_over qs (nexts ++ n ∷ []))) some
        ∙ ap (λ rs. row_of q (nexts_by q nexts ++ n ∷ []) ∷ rs) (rows-same qs nexts n behind)
        ∙ ap (λ r. r ∷ rows_over qs nexts) (row-push q (nexts_by q nexts) n)

    old : with_row (rows_over (q ∷ qs) nexts) n.played n.outcome ≡ row_with_one (row_of q (nexts_by q nexts)) n.outcome ∷ rows_over qs nexts
    old = elim (told (nat_lt 0 (length (nexts_by q nexts)))) [
      | inl t ↦
          ap (λ b. with_row (cond b (row_of q (nexts_by q nexts) ∷ rows_over qs nexts) (rows_over qs nexts)) n.played n.outcome) t
          ∙ with_row-here (row_of q (nexts_by q nexts)) (rows_over qs nexts) n.played n.outcome same_order
      | inr f ↦
          let none : nexts_by q nexts ≡ [] = no_length (nexts_by q nexts) f in
          let empty : row_of q (nexts_by q nexts) ≡ no_row n.played = ap (row_of q) none ∙ ap no_row e in
          ap (λ b. with_row (cond b (row_of q (nexts_by q nexts) ∷ rows_over qs nexts) (rows_over qs nexts)) n.played n.outcome) f
          ∙ with_row-front (rows_over qs nexts) n.played n.outcome (head-behind (order_of n.played) qs nexts behind)
          ∙ ap (λ r. row_with_one r n.outcome ∷ rows_over qs nexts) (sym empty)
    ]
rows-grow (q ∷ qs) order nexts n (inr later) =
    let less : order_of q < order_of n.played = behind-one (order_of q) n.played qs order.0 later in
    let same = nexts_by-other q nexts n (other_play q n.played (λ e. omega (arith, e, less))) in
    let rest = rows-grow qs order.1 nexts n later in
    let new : cond (nat_lt 0 (length (nexts_by q nexts))) (row_of q (nexts_by q nexts) ∷ rows_over qs (nexts ++ n ∷ [])) (rows_over qs (nexts ++ n ∷ [])) ≡ rows_over (q ∷ qs) (nexts ++ n ∷ []) =
    ap (λ ys. cond (nat_lt 0 (length ys)) (row_of q ys ∷ rows_over qs (nexts ++ n ∷ [])) (rows_over qs (nexts ++ n ∷ []))) (sym same) in
    by (nat_lt 0 (length (nexts_by q nexts))) less rest ∙ new
  where
    by : (b : Bool) → order_of q < order_of n.played → with_row (rows_over qs nexts) n.played n.outcome ≡ rows_over qs (nexts ++ n ∷ [])
        → with_row (cond b (row_of q (nexts_by q nexts) ∷ rows_over qs nexts) (rows_over qs nexts)) n.played n.outcome ≡ cond b (row_of q (nexts_by q nexts) ∷ rows_over qs (nexts ++ n ∷ [])) (rows_over qs (nexts ++ n ∷ []))
    by true less rest = with_row-later (row_of q (nexts_by q nexts)) (rows_over qs nexts) n.played n.outcome less ∙ ap (λ rs. row_of q (nexts_by q nexts) ∷ rs) rest
    by false less rest = rest

-- no next move, no row
pub rows-none : (qs : List Move) → rows_over qs [] ≡ []
rows-none [] = refl
rows-none (q ∷ qs) = rows-none qs

-- what stands in a list doesn't hang on what would stand behind it
pub any_default : (rows : List NextMove) (at : ℕ) (d e : NextMove) → at < length rows → get_or rows at d ≡ get_or rows at e
any_default [] at d e lt = absurd (omega (arith, lt))
any_default (r ∷ rs) zero d e lt = refl
any_default (r ∷ rs) (suc at) d e lt = any_default rs at d e (omega (arith, lt))
