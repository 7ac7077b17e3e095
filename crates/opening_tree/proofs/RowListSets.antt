-- One list of rows after another is set.
use Prim.Native.Nat.{zero}
use Rattle.std.proofs.Common.{◌≡◌, ℕ, suc, ◌+◌, ◌<◌, List, [], ◌∷◌, drop, get_or, length, set, refl, sym, ap, ◌∙◌, arith}
use Rattle.std.proofs.lemmas.List.{get_or-set_same}
use Rattle.opening_tree.specs.declared.answer.NextMove.{NextMove}
use Rattle.opening_tree.specs.declared.row_lists.RowLists.{RowLists}
use Rattle.opening_tree.specs.Groups.{with_more_row, with_more_rows}
use Rattle.opening_tree.specs.OpeningTables.{AreRows, lists_of}
use Rattle.opening_tree.specs.RowLists.{rows_from}
use Rattle.opening_tree.proofs.RowListTables.{get_or-lists, length-lists, lists-set}
use Rattle.opening_tree.proofs.RowsJoin.{rows-next}

set-twice : {X : Type 0} (xs : List X) (at : ℕ) (x y : X) → set (set xs at x) at y ≡ set xs at y
set-twice [] at x y = refl
set-twice (z ∷ zs) zero x y = refl
set-twice (z ∷ zs) (suc at) x y = ap (λ ys. z ∷ ys) (set-twice zs at x y)

-- the rows of one list
abbrev pub rows_in : ℕ → RowLists → List NextMove
rows_in list r = rows_from list [] r.rows.items r.lists.items

pub rows-at : (list : ℕ) (r : RowLists) (d : List NextMove) → list < length r.firsts.items → get_or (lists_of r) list d ≡ rows_in list r
rows-at list r d lt = get_or-lists (length r.firsts.items) r.rows.items r.lists.items list d lt

pub set-own : (list : ℕ) (r : RowLists) → list < length r.firsts.items → lists_of r ≡ set (lists_of r) list (rows_in list r)
set-own list r lt = lists-set (length r.firsts.items) r.rows.items r.rows.items r.lists.items r.lists.items list (rows_in list r) lt (λ l ne. refl) refl

-- the rows of a list that was set
own-set : (list : ℕ) (old new : RowLists) (own : List NextMove) → list < length old.firsts.items → length new.firsts.items ≡ length old.firsts.items → lists_of new ≡ set (lists_of old) list own → rows_in list new ≡ own
own-set list old new own lt long is =
    sym (rows-at list new [] (omega (arith, lt, long))) ∙ ap (λ ls. get_or ls list []) is
    ∙ get_or-set_same (lists_of old) list own [] (omega (arith, lt, length-lists (length old.firsts.items) old.rows.items old.lists.items))

-- Of more rows so many are put in.
pub record ArePutIn (list : ℕ) (first now : RowLists) (more : List NextMove) (count : ℕ) : Type 0 where
  pub are : AreRows now
  pub long : length now.firsts.items ≡ length first.firsts.items
  pub is_set : lists_of now ≡ set (lists_of first) list (rows_in list now)
  pub leads : with_more_rows (rows_in list now) (drop count more) ≡ with_more_rows (rows_in list first) more

pub put-next : (list : ℕ) (first now new : RowLists) (more : List NextMove) (k : ℕ) (row : NextMove) → ArePutIn list first now more k → list < length first.firsts.items → k < length more → row ≡ get_or more k row
    → AreRows new → length new.firsts.items ≡ length now.firsts.items → lists_of new ≡ set (lists_of now) list (with_more_row (rows_in list now) row) → ArePutIn list first new more (k + 1)
put-next list first now new more k row so_far lt below is are long added =
    let own : rows_in list new ≡ with_more_row (rows_in list now) row = own-set list now new (with_more_row (rows_in list now) row) (omega (arith, lt, so_far.long)) long added in
    record {
      are = are;
      long = long ∙ so_far.long;
      is_set =
          added ∙ ap (λ ls. set ls list (with_more_row (rows_in list now) row)) so_far.is_set
          ∙ set-twice (lists_of first) list (rows_in list now) (with_more_row (rows_in list now) row)
          ∙ ap (set (lists_of first) list) (sym own);
      leads = rows-next (rows_in list first) (rows_in list now) (rows_in list new) more k row so_far.leads below (own ∙ ap (λ (r : NextMove). with_more_row (rows_in list now) r) is);
    }
