-- Stones of placements that stand beside cells that must be empty.
use Rattle.std.specs.Prelude.{◌≡◌, ℕ, ◌+◌, ◌≤◌, [], List, slice_index_or}
use Rattle.kb_geometry.specs.declared.shape.Shape.{Shape}
use Rattle.pattern_images.specs.declared.cell.PatternCell.{PatternCell}
use Rattle.pattern_images.specs.declared.cell.PatternCell.TheVariants as kind
use Rattle.pattern_images.specs.Grid.{Grid}
use Rattle.ready_images.specs.declared.pair.Pair.{Pair}
use Rattle.ready_images.specs.Wants.{IsWantIn, rank_of}

-- a cell of the rectangle that must be a stone stands so far behind the upper left one
abbrev pub IsStoneIn : Shape → Grid → ℕ → Type 0
IsStoneIn shape grid offset = (cell : PatternCell) × (rank_of cell ≡ 0)
    × IsWantIn shape grid (record { offset = offset; cell = cell })

-- a cell of the rectangle that must be empty stands so far behind the upper left one
abbrev pub IsEmptyIn : Shape → Grid → ℕ → Type 0
IsEmptyIn shape grid offset = IsWantIn shape grid (record { offset = offset; cell = kind.Empty })

-- the pair is of a cell of the rectangle that must be a stone, and one that must be empty
abbrev pub IsPairIn : Shape → Grid → Pair → Type 0
IsPairIn shape grid pair = IsStoneIn shape grid pair.stone × IsEmptyIn shape grid pair.empty

-- behind so many bases, each with the next number, both points of the pair are among so many
abbrev pub IsPairBelow : (points base count : ℕ) → Pair → Type 0
IsPairBelow points base count pair = (base + pair.stone + count ≤ points)
    × (base + pair.empty + count ≤ points)

-- the pairs of a class; for private functions
abbrev pub pairs_at : List (List Pair) → ℕ → List Pair
pairs_at lists class = slice_index_or lists class []
