-- The planes of order of a block.
use Rattle.std.specs.Prelude.{◌≡◌, ◌<◌, ◌+◌, ℕ, List, length, slice_index_or}
use Rattle.game_tree.specs.Tree.{Tree}
use Rattle.capture_board.specs.Deltas.{Deltas}
use Rattle.node_position.specs.Games.{AreNodeChanges, Game}
use Rattle.final_index.specs.Order.{HasOrderOf, KeepsBits, OrderGames}

-- the bits of a game are those of its tree, if its board has the shape of the planes
abbrev pub HasOrderOfTree : OrderGames → ℕ → Tree → Type 0
HasOrderOfTree order g tree = tree.shape ≡ order.shape →
    (changes : Deltas) → AreNodeChanges tree changes → HasOrderOf changes order g

-- each game of the block has its place in the planes, and its bits
abbrev pub AreOrdersOn : List Game → OrderGames → Type 0
AreOrdersOn games order = (order.count ≡ length games)
    × ((g : ℕ) (d : Game) → g < length games → HasOrderOfTree order g (slice_index_or games g d).tree)

-- one game more, with its bits; the others keep theirs; for private functions
pub record HasOrderMore (tree : Tree) (old new : OrderGames) : Type 0 where
  pub shape : new.shape ≡ old.shape
  pub count : new.count ≡ old.count + 1
  pub kept : KeepsBits old new
  pub added : HasOrderOfTree new old.count tree
