-- Rows that are put in one after another stand in order.
use Rattle.std.proofs.Common.{◌≡◌, ℕ, ◌<◌, Bool, true, false, cond, inl, inr, List, [], ◌∷◌, refl, sym, ap, ◌∙◌, subst, arith}
use Rattle.std.specs.Prelude.{nat_eq}
use Rattle.std.proofs.lemmas.Bool.{cases_eq, cases_lt}
use Rattle.opening_tree.specs.declared.answer.NextMove.{NextMove}
use Rattle.opening_tree.specs.Groups.{AreSorted, row_order, with_more_row}
use Rattle.opening_tree.specs.RowLists.{rows_from}
use Rattle.opening_tree.proofs.RowsJoin.{AreRowsBehind, more_row-front, more_row-here, more_row-later, more_rows-later}

-- each row comes behind those before it
abbrev IsAscending : List NextMove → Type 0
IsAscending [] = Unit
IsAscending (r ∷ rs) = AreRowsBehind (row_order r) rs × IsAscending rs

behind-less : (j k : ℕ) (rows : List NextMove) → j < k → AreRowsBehind k rows → AreRowsBehind j rows
behind-less j k [] lt behind = tt
behind-less j k (r ∷ rs) lt behind = (omega (arith, lt, behind.0), behind-less j k rs lt behind.1)

behind-put : (k : ℕ) (rows : List NextMove) (m : NextMove) → AreRowsBehind k rows → k < row_order m → AreRowsBehind k (with_more_row rows m)
behind-put k [] m behind lt = (lt, tt)
behind-put k (r ∷ rs) m behind lt = elim (cases_eq (row_order r) (row_order m)) [
  | inl e ↦ subst (AreRowsBehind k) (sym (more_row-here r rs m e)) (behind.0, behind.1)
  | inr ne ↦ elim (cases_lt (row_order r) (row_order m)) [
    | inl less ↦ subst (AreRowsBehind k) (sym (more_row-later r rs m less)) (behind.0, behind-put k rs m behind.1 lt)
    | inr ge ↦ subst (AreRowsBehind k) (sym (more_row-front (r ∷ rs) m (omega (arith, ne, ge)))) (lt, behind)
  ]
]

ascending-put : (rows : List NextMove) (m : NextMove) → IsAscending rows → IsAscending (with_more_row rows m)
ascending-put [] m up = (tt, tt)
ascending-put (r ∷ rs) m up = elim (cases_eq (row_order r) (row_order m)) [
  | inl e ↦ subst IsAscending (sym (more_row-here r rs m e)) (up.0, up.1)
  | inr ne ↦ elim (cases_lt (row_order r) (row_order m)) [
    | inl less ↦ subst IsAscending (sym (more_row-later r rs m less)) (behind-put (row_order r) rs m up.0 less, ascending-put rs m up.1)
    | inr ge ↦
        let front : row_order m < row_order r = omega (arith, ne, ge) in
        subst IsAscending (sym (more_row-front (r ∷ rs) m front)) ((front, behind-less (row_order m) (row_order r) rs front up.0), up)
  ]
]

rows-ascending : (list : ℕ) (sofar rows : List NextMove) (lists : List ℕ) → IsAscending sofar → IsAscending (rows_from list sofar rows lists)
rows-ascending list sofar [] lists up = up
rows-ascending list sofar (r ∷ rs) [] up = up
rows-ascending list sofar (r ∷ rs) (l ∷ ls) up = rows-ascending list (cond (nat_eq l list) (with_more_row sofar r) sofar) rs ls (by (nat_eq l list))
  where
    by : (b : Bool) → IsAscending (cond b (with_more_row sofar r) sofar)
    by true = ascending-put sofar r up
    by false = up

sorted : (rows : List NextMove) → IsAscending rows → AreSorted rows
sorted [] up = refl
sorted (r ∷ rs) up = more_rows-later r [] rs up.0 ∙ ap (λ (xs : List NextMove). r ∷ xs) (sorted rs up.1)

pub rows-sorted : (list : ℕ) (copy rows : List NextMove) (lists : List ℕ) → copy ≡ rows_from list [] rows lists → AreSorted copy
rows-sorted list copy rows lists is = subst (λ (rs : List NextMove). AreSorted rs) (sym is) (sorted (rows_from list [] rows lists) (rows-ascending list [] rows lists tt))
