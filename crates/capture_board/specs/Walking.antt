-- Where a walker stands, and the position that it shows.
use Prim.Native.Nat.{zero}
use Rattle.std.specs.Prelude.{◌≡◌, ℕ, ◌<◌, suc, Option, Some, None, IfSome, option_and_then}
use Rattle.std.specs.Option.{IsSomeAnd}
use Rattle.node_paths.specs.Parents.{IsOnPathTo}
use Rattle.kb_geometry.specs.declared.shape.Shape.{Shape}
use Rattle.kb_geometry.specs.Capture.{Position}
use Rattle.capture_board.specs.Deltas.{Deltas, node_count, parent_of, position_where}

-- a walker as contracts see it: its board, the node where it stands, none above the root, and the
-- position that it shows
pub record WalkerState : Type 0 where
  pub shape : Shape
  pub here : Option ℕ
  pub position : Position

-- The walker stands at a node of these changes, or above their root, and shows the position there.
pub record StandsIn (deltas : Deltas) (walker : WalkerState) : Type 0 where
  pub same_shape : walker.shape ≡ deltas.shape
  pub in_range : IfSome walker.here (λ n. n < node_count deltas)
  pub shown : walker.position ≡ position_where deltas walker.here

-- the parent of the node where a walk stands; none at the root, and above it
abbrev pub parent_here : Deltas → Option ℕ → Option ℕ
parent_here deltas here = option_and_then (parent_of deltas) here

-- A walk can go back to this place: to above the root from everywhere, and to a node from that node
-- itself and from the nodes below it.
abbrev pub MayLeaveTo : Deltas → Option ℕ → Option ℕ → Type 0
MayLeaveTo deltas here None = Unit {0}
MayLeaveTo deltas here (Some a) = IsSomeAnd here (λ n. IsOnPathTo (parent_of deltas) a n)

-- the node before this one in order of the text; none before the root
abbrev pub node_before : ℕ → Option ℕ
node_before zero = None
node_before (suc n) = Some n
