-- Openings by the words of their canonical positions: keys, counts and lists of rows by their numbers.
use Prim.Native.Nat.{zero}
use Rattle.std.specs.Prelude.{◌≡◌, ℕ, suc, if◌then◌else◌, nat_eq, List, [], ◌∷◌, length}
use Rattle.std.specs.Cmp.Lexicographic.{pointwise}
use Rattle.opening_tree.specs.declared.answer.NextMove.{NextMove}
use Rattle.opening_tree.specs.declared.answer.Opening.{Opening}
use Rattle.opening_tree.specs.declared.opening_so_far.OpeningCounts.{OpeningCounts}
use Rattle.opening_tree.specs.declared.row_lists.RowLists.{RowLists}
use Rattle.opening_tree.specs.RowLists.{AreRowLists, lists_in}
use Rattle.opening_tree.specs.StoredGroups.{Stored}

-- ---- what is seen

-- openings, each with the words of its canonical position, of so many words
pub record OpeningList : Type 0 where
  pub width : ℕ
  pub entries : List Stored

-- the opening with these words, where there is none one at the end
abbrev pub begun : List Stored → List ℕ → Opening → List Stored
begun [] words none = (words, none) ∷ []
begun (e ∷ es) words none = if pointwise nat_eq words e.0 then e ∷ es else e ∷ begun es words none

-- a change of the opening with a number
abbrev pub changed : (Opening → Opening) → List Stored → ℕ → List Stored
changed change [] at = []
changed change (e ∷ es) zero = (e.0, change e.1) ∷ es
changed change (e ∷ es) (suc at) = e ∷ changed change es at

-- what is said of the opening with a number
abbrev pub IsSaidAt : (Opening → Type 0) → List Stored → ℕ → Type 0
IsSaidAt P [] at = ⊥
IsSaidAt P (e ∷ es) zero = P e.1
IsSaidAt P (e ∷ es) (suc at) = IsSaidAt P es at

-- ---- how they are kept

-- the opening with these counts and rows
abbrev pub opening_in : OpeningCounts → List NextMove → Opening
opening_in c rows = record {
  count = c.count;
  black = c.black;
  white = c.white;
  other = c.other;
  game = c.game;
  node = c.node;
  nexts = rows;
}

-- the openings of keys, counts and rows
abbrev pub stored_in : List (List ℕ) → List OpeningCounts → List (List NextMove) → List Stored
stored_in [] cs rs = []
stored_in (k ∷ ks) [] rs = []
stored_in (k ∷ ks) (c ∷ cs) [] = []
stored_in (k ∷ ks) (c ∷ cs) (r ∷ rs) = (k, opening_in c r) ∷ stored_in ks cs rs

-- the lists that rows are kept in
abbrev pub lists_of : RowLists → List (List NextMove)
lists_of r = lists_in (length r.firsts.items) r.rows.items r.lists.items

-- rows that are kept in lists
abbrev pub AreRows : RowLists → Type 0
AreRows r = AreRowLists r.rows.items r.lists.items r.nexts.items r.firsts.items r.lasts.items

-- as many counts and lists of rows as keys
pub record IsOpeningTable (keys : List (List ℕ)) (counts : List OpeningCounts)
    (rows : RowLists) : Type 0 where
  pub are_rows : AreRows rows
  pub counted : length counts ≡ length keys
  pub listed : length rows.firsts.items ≡ length keys
