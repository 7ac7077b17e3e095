-- How the sets of a game are gathered node by node: definitions for private functions.
use Rattle.std.specs.Prelude.{◌≡◌, ◌≢◌, ℕ, ◌<◌, ◌⊎◌, ◌↔◌, List, All, Any, Contains}
use Rattle.kb_geometry.specs.declared.stone.Cell.{Cell}
use Rattle.kb_geometry.specs.declared.stone.Change.{Change}
use Rattle.kb_geometry.specs.Board.{point_count}
use Rattle.kb_geometry.specs.Capture.{cell_at}
use Rattle.capture_board.specs.Deltas.{Deltas, position_at}
use Rattle.final_index.specs.declared.ever_sets.EverSets.{EverSets}
use Rattle.final_index.specs.Ever.{set_of}

-- some change makes the point this cell
abbrev pub MakesCell : List Change → ℕ → Cell → Type 0
MakesCell changes p stone = Any (λ (c : Change). (c.point ≡ p) × (c.new ≡ stone)) changes

-- each set has gained the points that these changes make its cell
abbrev pub AreAdded : EverSets → List Change → EverSets → Type 0
AreAdded before changes after = (stone : Cell) (p : ℕ) → Contains (set_of after stone) p
    ↔ (Contains (set_of before stone) p ⊎ MakesCell changes p stone)

-- the numbers below the count on which no change is
abbrev pub AreUntouched : ℕ → List Change → List ℕ → Type 0
AreUntouched count changes points = (p : ℕ) → Contains points p
    ↔ ((p < count) × All (λ (c : Change). c.point ≢ p) changes)

-- the sets have exactly the points with their cells at the nodes before this one
abbrev pub AreGathered : Deltas → ℕ → EverSets → Type 0
AreGathered deltas end sets = (stone : Cell) (p : ℕ) → Contains (set_of sets stone) p
    ↔ ((p < point_count deltas.shape)
    × ((n : ℕ) × (n < end) × (cell_at (position_at deltas n) p ≡ stone)))
