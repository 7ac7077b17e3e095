-- Games in blocks: each block is a list of games in a row.
use Rattle.std.specs.Prelude.{◌≡◌, ◌<◌, ◌≤◌, ℕ, List, length, take, slice_index_or}
use Rattle.std.specs.Arc.{arc_value}
use Rattle.std.specs.List.{flat_map}
use Rattle.node_position.specs.Games.{Game}
use Rattle.segment_store.specs.declared.block.NumberedBlock.{NumberedBlock}

-- the games of a block
abbrev pub games_of : NumberedBlock → List Game
games_of numbered = arc_value numbered.block

-- the games of these blocks, one block after another
abbrev pub games_in : List NumberedBlock → List Game
games_in blocks = flat_map games_of blocks

-- each block has the number of its first game, which is how many games stand before it
abbrev pub AreNumbered : List NumberedBlock → Type 0
AreNumbered blocks = (k : ℕ) (d : NumberedBlock) → k < length blocks →
    (slice_index_or blocks k d).first ≡ length (games_in (take k blocks))

-- The blocks of a segment with so many games: they are numbered, and the games are at most 400,000.
pub record AreBlocks (blocks : List NumberedBlock) (count : ℕ) : Type 0 where
  pub numbered : AreNumbered blocks
  pub counted : count ≡ length (games_in blocks)
  pub most : count ≤ 400000
