-- Placements whose cells the sets of a game meet, and the games of a block that may have them.
use Rattle.std.specs.Prelude.{◌≡◌, ◌≢◌, ℕ, ◌<◌, ◌++◌, List, None, Option, All, AllPairs, Any, Contains, length, slice_index_or}
use Rattle.std.specs.Borrow.{Bor}
use Rattle.std.specs.Int.{bit_at}
use Rattle.std.specs.Option.{IsSomeAnd}
use Rattle.kb_geometry.specs.declared.shape.Shape.{Shape}
use Rattle.kb_geometry.specs.declared.stone.Cell.{Cell}
use Rattle.pattern_images.specs.declared.cell.PatternCell.{PatternCell}
use Rattle.pattern_images.specs.declared.cell.PatternCell.TheVariants as cell
use Rattle.pattern_images.specs.Grid.{cell_in}
use Rattle.pattern_images.specs.Holds.{Allows, number_under}
use Rattle.pattern_images.specs.ImageList.{ImageList, placement_at}
use Rattle.ready_images.specs.Prepared.{IsPreparedAs}
use Rattle.pattern_images.specs.Placements.{Placement}
use Rattle.final_index.specs.declared.ever_sets.EverSets.{EverSets}
use Rattle.final_index.specs.Ever.{set_of}
use Rattle.final_index.specs.Order.{OrderGames}
use Rattle.final_index.specs.Planes.{PlaneGames}
use Rattle.candidate_sieve.specs.declared.candidates.Candidate.{Candidate}
use Rattle.candidate_sieve.specs.Ordered.{MayStand}

-- the sets have the point with a cell that the pattern's cell allows
abbrev pub HasAllowed : EverSets → ℕ → PatternCell → Type 0
HasAllowed sets p pattern = (c : Cell) × Allows pattern c × Contains (set_of sets c) p

-- the sets have, under each cell of the placement but wildcards, the point with a cell that it
-- allows
abbrev pub MeetsCells : Shape → EverSets → Placement → Type 0
MeetsCells shape sets placement =
    (dx dy : ℕ) → dx < placement.grid.cols → dy < placement.grid.rows →
    cell_in placement.grid dx dy ≢ cell.Any →
    HasAllowed sets (number_under shape placement dx dy) (cell_in placement.grid dx dy)

-- game g of the block is on a board of the shape, and its sets meet the placement's cells
abbrev pub IsPossibleIn : PlaneGames → ℕ → Placement → Type 0
IsPossibleIn planes g placement =
    IsSomeAnd (slice_index_or planes.games g None) (λ sets. MeetsCells planes.shape sets placement)

-- The candidates are, for each placement, games of the block among those that are asked for whose sets
-- meet its cells, and all of these that may have it by the order of stones, if that is known. A
-- placement has one candidate at most, with its base and its class, and a candidate has some game.
pub record AreCandidates (planes : PlaneGames) (order : Option (Bor OrderGames)) (images : ImageList)
    (games : ℕ) (found : List Candidate) : Type 0 where
  pub prepared : All (λ (c : Candidate). IsPreparedAs images c.placement c.base c.class) found
  pub some_game : All (λ (c : Candidate). 0 < c.games) found
  pub distinct : AllPairs (λ (c d : Candidate). c.placement ≢ d.placement) found
  pub sound : (i g : ℕ) → i < length images.placements → g < 64 →
      Any (λ (c : Candidate). (c.placement ≡ i) × (bit_at c.games g ≡ 1)) found →
      (bit_at games g ≡ 1) × IsPossibleIn planes g (placement_at images.placements i)
  pub complete : (i g : ℕ) → i < length images.placements → g < 64 → bit_at games g ≡ 1 →
      IsPossibleIn planes g (placement_at images.placements i) →
      MayStand order g images.shape (placement_at images.placements i) →
      Any (λ (c : Candidate). (c.placement ≡ i) × (bit_at c.games g ≡ 1)) found

-- the list has gained such candidates
pub record AreCandidatesAdded (planes : PlaneGames) (order : Option (Bor OrderGames))
    (images : ImageList) (games : ℕ) (old new : List Candidate) : Type 0 where
  pub more : List Candidate
  pub added : new ≡ old ++ more
  pub are : AreCandidates planes order images games more
