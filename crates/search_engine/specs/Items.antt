-- Blocks of games in a row.
use Rattle.std.specs.Prelude.{◌≡◌, ℕ, ◌+◌, ◌<◌, List, drop, length, take, slice_index_or}
use Rattle.std.specs.List.{flat_map}
use Rattle.node_position.specs.Games.{Game}
use Rattle.search_engine.specs.declared.item.Item.{Item}

-- the games of a block that aren't left out
abbrev pub games_of_item : Item → List Game
games_of_item item = drop item.skip item.block.now

-- those of blocks, one block after another
abbrev pub games_of_items : List Item → List Game
games_of_items items = flat_map games_of_item items

-- the games of these blocks are numbered from a first number on, one block after another
abbrev pub AreNumberedFrom : ℕ → List Item → Type 0
AreNumberedFrom first items = (k : ℕ) (d : Item) → k < length items →
    (slice_index_or items k d).first ≡ first + length (games_of_items (take k items))

-- the blocks have these games, which are numbered from a first number on
pub record AreItems (first : ℕ) (games : List Game) (items : List Item) : Type 0 where
  pub has_games : games_of_items items ≡ games
  pub numbered : AreNumberedFrom first items
