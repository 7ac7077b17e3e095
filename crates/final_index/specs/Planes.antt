-- The sets of several games, side by side.
use Rattle.std.specs.Prelude.{ℕ, List, Option, None, Contains, slice_index_or}
use Rattle.std.specs.Option.{IsSomeAnd}
use Rattle.kb_geometry.specs.declared.shape.Shape.{Shape}
use Rattle.kb_geometry.specs.declared.stone.Cell.{Cell}
use Rattle.final_index.specs.declared.ever_sets.EverSets.{EverSets}
use Rattle.final_index.specs.Ever.{set_of}

-- The games of a block on boards of one shape: for each game of the block its sets, or none if its
-- board has another shape.
pub record PlaneGames : Type 0 where
  pub shape : Shape
  pub games : List (Option EverSets)

-- the game with this number is on a board of the shape, and had the cell on the point at some node
abbrev pub HadThere : List (Option EverSets) → ℕ → Cell → ℕ → Type 0
HadThere games g stone p = IsSomeAnd (slice_index_or games g None)
    (λ sets. Contains (set_of sets stone) p)
