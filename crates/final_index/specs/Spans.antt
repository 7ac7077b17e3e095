-- From when on points have a stone, and until when they are empty: definitions for private functions.
use Rattle.std.specs.Prelude.{◌≡◌, ◌≢◌, ℕ, ◌<◌, ◌≤◌, ◌⊎◌, List, Option, Some, length, slice_index, slice_index_or}
use Rattle.kb_geometry.specs.declared.stone.Cell.TheVariants as cell
use Rattle.kb_geometry.specs.declared.stone.Change.{Change}
use Rattle.kb_geometry.specs.Board.{point_count}
use Rattle.kb_geometry.specs.Capture.{cell_at}
use Rattle.capture_board.specs.Deltas.{Deltas, node_count, position_at}
use Rattle.final_index.specs.declared.spans.Spans.{Spans}

-- the two numbers of a point
abbrev pub from_at : Spans → ℕ → ℕ
from_at spans p = slice_index spans.stone_from.items p

abbrev pub below_at : Spans → ℕ → ℕ
below_at spans p = slice_index spans.empty_below.items p

-- The numbers are right for the nodes before one: no point has a stone before the one number, nor is
-- empty from the other on. The latter is the number of all nodes, or a node before that one.
pub record AreSpansTo (deltas : Deltas) (end : ℕ) (spans : Spans) : Type 0 where
  pub from_count : length spans.stone_from.items ≡ point_count deltas.shape
  pub below_count : length spans.empty_below.items ≡ point_count deltas.shape
  pub stones : (p n : ℕ) → p < point_count deltas.shape → n < end →
      cell_at (position_at deltas n) p ≢ cell.Empty → from_at spans p ≤ n
  pub empties : (p n : ℕ) → p < point_count deltas.shape → n < end →
      cell_at (position_at deltas n) p ≡ cell.Empty → n < below_at spans p
  pub recent : (p : ℕ) → p < point_count deltas.shape →
      (below_at spans p ≡ node_count deltas) ⊎ (below_at spans p < end)

-- they are right for all nodes
abbrev pub AreSpansOf : Deltas → Spans → Type 0
AreSpansOf deltas spans = AreSpansTo deltas (node_count deltas) spans

-- where a node's parent is this one, the number of a point stays if it is no greater, and else is that
-- of all nodes
abbrev pub IsBackAt : Option ℕ → (n end before after : ℕ) → Type 0
IsBackAt parent n end before after = (after ≡ end)
    ⊎ ((after ≡ before) × (before < n) × ((m : ℕ) → parent ≡ Some m → before ≤ m))

-- A change of a node is noted on its point, and nothing else.
pub record IsNoted (change : Change) (n end : ℕ) (before after : Spans) : Type 0 where
  pub from_count : length after.stone_from.items ≡ length before.stone_from.items
  pub below_count : length after.empty_below.items ≡ length before.empty_below.items
  pub from_less : (p : ℕ) → from_at after p ≤ from_at before p
  pub others : (p : ℕ) → p ≢ change.point → below_at after p ≡ below_at before p
  pub empty : change.new ≡ cell.Empty → below_at after change.point ≡ end
  pub stone : change.new ≢ cell.Empty →
      (below_at after change.point ≡ n) × (from_at after change.point ≤ n)

-- the change with this number
abbrev pub change_at : List Change → ℕ → Change
change_at changes k = slice_index_or changes k (record { point = 0; old = cell.Empty; new = cell.Empty })

-- The first so many changes of a node are noted. A point on which each of them leaves it empty has the
-- number of all nodes, or none of them is on it.
pub record AreAllNoted (changes : List Change) (count n end : ℕ) (before after : Spans) : Type 0 where
  pub from_count : length after.stone_from.items ≡ length before.stone_from.items
  pub below_count : length after.empty_below.items ≡ length before.empty_below.items
  pub from_less : (p : ℕ) → from_at after p ≤ from_at before p
  pub stones : (k : ℕ) → k < count → (change_at changes k).new ≢ cell.Empty →
      from_at after (change_at changes k).point ≤ n
  pub below : (p : ℕ) → (below_at after p ≡ end) ⊎ ((below_at after p ≡ n)
      ⊎ (below_at after p ≡ below_at before p))
  pub emptied : (p : ℕ) → ((k : ℕ) → k < count → (change_at changes k).point ≡ p →
      (change_at changes k).new ≡ cell.Empty) →
      (below_at after p ≡ end) ⊎ ((below_at after p ≡ below_at before p)
      × ((k : ℕ) → k < count → (change_at changes k).point ≢ p))
