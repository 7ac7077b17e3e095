-- In which games of a block a point had a stone while another was empty.
use Rattle.std.specs.Prelude.{◌≡◌, ◌≢◌, ℕ, ◌+◌, ◌<◌, List, slice_index}
use Rattle.std.specs.Int.{bit_at}
use Rattle.kb_geometry.specs.declared.shape.Shape.{Shape}
use Rattle.kb_geometry.specs.declared.stone.Cell.TheVariants as cell
use Rattle.kb_geometry.specs.Board.{cols_of, point_count}
use Rattle.kb_geometry.specs.Capture.{cell_at}
use Rattle.capture_board.specs.Deltas.{Deltas, node_count, position_at}
use Rattle.final_index.specs.declared.order_planes.Side.{Side}
use Rattle.final_index.specs.declared.order_planes.Side.TheVariants as side

-- at some node the one point has a stone while the other is empty
abbrev pub StoodWhileEmpty : Deltas → (p q : ℕ) → Type 0
StoodWhileEmpty deltas p q = (n : ℕ) × (n < node_count deltas)
    × (cell_at (position_at deltas n) p ≢ cell.Empty)
    × (cell_at (position_at deltas n) q ≡ cell.Empty)

-- The shape of the boards, how many games there are, and for each side and each point a word with a bit
-- for each game.
pub record OrderGames : Type 0 where
  pub shape : Shape
  pub count : ℕ
  pub words : List ℕ

-- the one number is that of the point on this side of the other, by numbers alone: behind the last
-- point of a row comes the first of the next
abbrev pub IsBeside : Shape → Side → (p q : ℕ) → Type 0
IsBeside shape side.Right p q = q ≡ p + 1
IsBeside shape side.Left p q = p ≡ q + 1
IsBeside shape side.Below p q = q ≡ p + cols_of shape
IsBeside shape side.Above p q = p ≡ q + cols_of shape

-- where the words of a side begin, for a board with so many points
abbrev pub side_start : ℕ → Side → ℕ
side_start points side.Right = 0
side_start points side.Left = points
side_start points side.Below = points + points
side_start points side.Above = points + points + points

-- game g may have had a stone on p while q was empty: it has its bit if q is beside p
abbrev pub MayHaveStood : OrderGames → (g p q : ℕ) → Type 0
MayHaveStood order g p q = (s : Side) → IsBeside order.shape s p q →
    bit_at (slice_index order.words (side_start (point_count order.shape) s + p)) g ≡ 1

-- the bits of a game are those of its changes: it has its bit wherever it had a stone while the other
-- point was empty
abbrev pub HasOrderOf : Deltas → OrderGames → ℕ → Type 0
HasOrderOf deltas order g = (p q : ℕ) → p < point_count order.shape → q < point_count order.shape →
    StoodWhileEmpty deltas p q → MayHaveStood order g p q

-- a game that has a bit has it still
abbrev pub KeepsBits : OrderGames → OrderGames → Type 0
KeepsBits old new = (k g : ℕ) → bit_at (slice_index old.words k) g ≡ 1 →
    bit_at (slice_index new.words k) g ≡ 1

-- One game more. It has its number, and bits as its changes ask; the others keep theirs.
pub record HasGameMore (deltas : Deltas) (old new : OrderGames) : Type 0 where
  pub shape : new.shape ≡ old.shape
  pub count : new.count ≡ old.count + 1
  pub kept : KeepsBits old new
  pub added : HasOrderOf deltas new old.count

-- The games of the first, and those of the second behind them, with all their bits.
pub record AreJoined (a b both : OrderGames) : Type 0 where
  pub shape : both.shape ≡ a.shape
  pub count : both.count ≡ a.count + b.count
  pub kept : KeepsBits a both
  pub behind : (k g : ℕ) → bit_at (slice_index b.words k) g ≡ 1 →
      bit_at (slice_index both.words k) (g + a.count) ≡ 1
