-- Stretches of nodes, and the nodes at which the cells that are wanted stand.
use Rattle.std.specs.Prelude.{◌≡◌, ℕ, ◌+◌, ◌<◌, ◌≤◌, Bool, IsTrue, false, true, List, Option, Some, None, length, slice_index_or}
use Rattle.kb_geometry.specs.declared.stone.Cell.{Cell}
use Rattle.kb_geometry.specs.declared.stone.Cell.TheVariants as stone
use Rattle.pattern_images.specs.declared.cell.PatternCell.{PatternCell}
use Rattle.pattern_images.specs.declared.cell.PatternCell.TheVariants as kind
use Rattle.capture_index.specs.declared.stretch.Stretch.{Stretch}
use Rattle.ready_images.specs.declared.want.Want.{Want}
use Rattle.ready_images.specs.Wants.{no_want}
use Rattle.capture_index.specs.NodePositions.{NodePositions, cell_in, parent_in}

-- the node is in the stretch
abbrev pub IsWithin : ℕ → Stretch → Type 0
IsWithin n s = (s.from ≤ n) × (n < s.to)

-- the node is in one of the stretches
abbrev pub IsIn : List Stretch → ℕ → Type 0
IsIn stretches n = (k : ℕ) × (d : Stretch) × (k < length stretches) ×
    IsWithin n (slice_index_or stretches k d)

-- Each stretch has a node, all are within the nodes from the lowest one up to before the highest,
-- and each ends before the one that is listed before it begins. So no more are listed than there
-- are nodes.
pub record AreApart (lowest highest : ℕ) (stretches : List Stretch) : Type 0 where
  pub each : (k : ℕ) (d : Stretch) → k < length stretches →
      (lowest ≤ (slice_index_or stretches k d).from) ×
      ((slice_index_or stretches k d).from < (slice_index_or stretches k d).to) ×
      ((slice_index_or stretches k d).to ≤ highest)
  pub falling : (i j : ℕ) (d e : Stretch) → i < j → j < length stretches →
      (slice_index_or stretches j e).to ≤ (slice_index_or stretches i d).from

-- the pattern's cell allows the cell
abbrev pub is_allowed : PatternCell → Cell → Bool
is_allowed kind.Empty stone.Empty = true
is_allowed kind.Empty stone.Black = false
is_allowed kind.Empty stone.White = false
is_allowed kind.Black stone.Empty = false
is_allowed kind.Black stone.Black = true
is_allowed kind.Black stone.White = false
is_allowed kind.White stone.Empty = false
is_allowed kind.White stone.Black = false
is_allowed kind.White stone.White = true
is_allowed kind.NotWhite stone.Empty = true
is_allowed kind.NotWhite stone.Black = true
is_allowed kind.NotWhite stone.White = false
is_allowed kind.NotBlack stone.Empty = true
is_allowed kind.NotBlack stone.Black = false
is_allowed kind.NotBlack stone.White = true
is_allowed kind.Any c = true

-- the cell is one of those that are wanted
abbrev pub is_wanted : Want → Cell → Bool
is_wanted want c = is_allowed want.cell c

-- the want is met at a node, by the point so far behind base
abbrev pub IsWantedAt : NodePositions → ℕ → Want → ℕ → Type 0
IsWantedAt seen base want n = IsTrue (is_wanted want (cell_in seen (base + want.offset) n))

-- the point of the want has one cell at two nodes
abbrev pub IsUnchangedAt : NodePositions → ℕ → Want → ℕ → ℕ → Type 0
IsUnchangedAt seen base want n k =
    cell_in seen (base + want.offset) k ≡ cell_in seen (base + want.offset) n

-- each want is met at a node
abbrev pub AreWantedAt : NodePositions → ℕ → List Want → ℕ → Type 0
AreWantedAt seen base wants n = (k : ℕ) → k < length wants →
    IsWantedAt seen base (slice_index_or wants k no_want) n

-- there is no parent, or it isn't in the stretches
abbrev pub IsOutside : List Stretch → Option ℕ → Type 0
IsOutside stretches None = Unit {0}
IsOutside stretches (Some m) = ¬ IsIn stretches m

-- the node is in the stretches, and is the root or has a parent that isn't
pub record BeginsIn (seen : NodePositions) (stretches : List Stretch) (n : ℕ) : Type 0 where
  pub inside : IsIn stretches n
  pub first : IsOutside stretches (parent_in seen n)
