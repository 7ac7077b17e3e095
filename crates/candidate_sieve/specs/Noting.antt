-- How points and nodes are noted: definitions for private functions.
use Rattle.std.specs.Prelude.{◌≡◌, ℕ, ◌+◌, ◌<◌, ◌⊎◌, ◌↔◌, List, length, slice_index_or, Contains}
use Rattle.kb_geometry.specs.declared.stone.Cell.{Cell}
use Rattle.kb_geometry.specs.Board.{point_count}
use Rattle.pattern_images.specs.declared.cell.PatternCell.{PatternCell}
use Rattle.pattern_images.specs.declared.cell.PatternCell.TheVariants as cell
use Rattle.capture_index.specs.NodePositions.{NodePositions, count_in, nodes_where}
use Rattle.candidate_sieve.specs.declared.asked.AskedPoints.{AskedPoints}
use Rattle.candidate_sieve.specs.NodeCandidates.{AsksCell, noted}

-- the points for which these ask were noted too
abbrev pub AreNoted : AskedPoints → (ℕ → Cell → Type 0) → AskedPoints → Type 0
AreNoted before asks after = (c : Cell) (p : ℕ) → Contains (noted after c) p
    ↔ (Contains (noted before c) p ⊎ asks p c)

-- the cell of a pattern asks for the point on which it lies
abbrev pub AsksOn : PatternCell → ℕ → ℕ → Cell → Type 0
AsksOn pattern point p c = AsksCell pattern c × (p ≡ point)

-- a cell of a row asks, of which the first cell lies on a point
abbrev pub AsksInRow : List PatternCell → ℕ → ℕ → Cell → Type 0
AsksInRow row start p c = (k : ℕ) × (k < length row)
    × AsksOn (slice_index_or row k cell.Any) (start + k) p c

-- the point was noted with the cell, and begins to have it at the node
abbrev pub BeginsAt : NodePositions → AskedPoints → ℕ → Cell → ℕ → Type 0
BeginsAt seen points p c n = Contains (noted points c) p × Contains (nodes_where seen p c 0) n

-- the list gains exactly the nodes at which the point begins to have a cell that was noted
abbrev pub AreBeginningsAdded : NodePositions → AskedPoints → ℕ → List ℕ → List ℕ → Type 0
AreBeginningsAdded seen points p before after = (n : ℕ) → Contains after n
    ↔ (Contains before n ⊎ ((c : Cell) × BeginsAt seen points p c n))

-- the list has exactly the root, and the nodes at which a point begins to have a cell that was
-- noted
abbrev pub AreBegun : NodePositions → AskedPoints → List ℕ → Type 0
AreBegun seen points nodes = (n : ℕ) → Contains nodes n ↔ (((n ≡ 0) × (0 < count_in seen))
    ⊎ ((p : ℕ) × (c : Cell) × (p < point_count seen.shape) × BeginsAt seen points p c n))
