-- Lists of rows of next moves, all rows in one list.
use Rattle.std.specs.Prelude.{◌≡◌, ◌≢◌, ℕ, ◌+◌, ◌<◌, ◌≤◌, if◌then◌else◌, nat_eq, List, [], ◌∷◌, map, length, All, slice_index, slice_index_or, vec_capacity, vec_len}
use Rattle.std.specs.List.{range_with_len}
use Rattle.opening_tree.specs.declared.answer.NextMove.{NextMove}
use Rattle.opening_tree.specs.declared.row_lists.RowLists.{RowLists}
use Rattle.opening_tree.specs.Groups.{IsRowWithin, row_order, with_more_row}

-- ---- what is seen

-- the rows of one list, in their order, behind those that were put in before: each row of all tells
-- its list
abbrev pub rows_from : ℕ → List NextMove → List NextMove → List ℕ → List NextMove
rows_from list sofar [] lists = sofar
rows_from list sofar (r ∷ rs) [] = sofar
rows_from list sofar (r ∷ rs) (l ∷ ls) =
    rows_from list (if nat_eq l list then with_more_row sofar r else sofar) rs ls

-- so many lists
abbrev pub lists_in : ℕ → List NextMove → List ℕ → List (List NextMove)
lists_in count rows lists = map (λ l. rows_from l [] rows lists) (range_with_len 0 count)

-- from a number on no row of a list has this order
abbrev pub IsNoRow : ℕ → List NextMove → List ℕ → ℕ → ℕ → Type 0
IsNoRow list rows lists from order =
    (k : ℕ) (d : NextMove) → from ≤ k → k < length lists → slice_index lists k ≡ list →
    row_order (slice_index_or rows k d) ≢ order

-- ---- how they are kept

-- A link names the first row of a list from a number on, or none by the greatest link.
pub record IsFirstFrom (lists : List ℕ) (list from link : ℕ) : Type 0 where
  pub from_le : from ≤ link
  pub there : link < length lists → slice_index lists link ≡ list
  pub past : length lists ≤ link → link ≡ 4294967295
  pub before : (k : ℕ) → from ≤ k → k < link → k < length lists → slice_index lists k ≢ list

-- A link names the last row of a list, or none by the greatest link.
pub record IsLastOf (lists : List ℕ) (list link : ℕ) : Type 0 where
  pub there : link < length lists → slice_index lists link ≡ list
  pub past : length lists ≤ link → link ≡ 4294967295
  pub behind : (k : ℕ) → k < length lists → (link < length lists → link < k) →
      slice_index lists k ≢ list

-- Each list has links to its first and its last row, and each row one to the next of its list.
pub record AreChained (lists nexts firsts lasts : List ℕ) : Type 0 where
  pub firsts_are : (l : ℕ) → l < length firsts →
      IsFirstFrom lists l 0 (slice_index firsts l)
  pub nexts_are : (k : ℕ) → k < length lists →
      IsFirstFrom lists (slice_index lists k) (k + 1) (slice_index nexts k)
  pub lasts_are : (l : ℕ) → l < length firsts → IsLastOf lists l (slice_index lasts l)

-- the rows of lists, each with its list and chained, no two of a list with one order
pub record AreRowLists (rows : List NextMove) (lists nexts firsts lasts : List ℕ) : Type 0 where
  pub rows_long : length rows ≡ length lists
  pub nexts_long : length nexts ≡ length lists
  pub lasts_long : length lasts ≡ length firsts
  pub few : length lists ≤ 4294967295
  pub few_lists : length firsts ≤ 4294967295
  pub each_list : (k : ℕ) → k < length lists → slice_index lists k < length firsts
  pub chained : AreChained lists nexts firsts lasts
  pub different : (j k : ℕ) (d : NextMove) → j < k → k < length lists →
      slice_index lists j ≡ slice_index lists k →
      row_order (slice_index_or rows j d) ≢ row_order (slice_index_or rows k d)
  pub within : (l : ℕ) → l < length firsts →
      All (IsRowWithin 18446744073709551615) (rows_from l [] rows lists)

-- One list of rows more can be put in, and needs no memory.
pub record HasRoomForList (r : RowLists) : Type 0 where
  pub few : length r.firsts.items < 4294967295
  pub first : vec_len r.firsts < vec_capacity r.firsts
  pub last : vec_len r.lasts < vec_capacity r.lasts
