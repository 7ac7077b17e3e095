-- By the order of stones a game of a block may have each placement that holds in it.
use Rattle.std.proofs.Common.{◌≡◌, ℕ, ◌<◌, List, Option, None, Some, sym, ◌∙◌, subst}
use Rattle.std.specs.Borrow.{Bor}
use Rattle.std.specs.List.{slice_get}
use Rattle.std.specs.Prelude.{IfSome}
use Rattle.std.proofs.lemmas.Option.{get_or_from_slice_get, slice_get_within}
use Rattle.kb_geometry.specs.declared.shape.Shape.{Shape}
use Rattle.capture_board.specs.Deltas.{Deltas, node_count, position_at}
use Rattle.node_position.specs.Games.{AreNodeChanges, Game}
use Rattle.pattern_images.specs.Holds.{Holds}
use Rattle.pattern_images.specs.ImageList.{IsPlacedOn}
use Rattle.pattern_images.specs.Placements.{Placement}
use Rattle.final_index.specs.Order.{OrderGames}
use Rattle.candidate_sieve.specs.Ordered.{MayStand, StandsInOrder}
use Rattle.candidate_sieve.proofs.OrderTold.{stands-in-order}
use Rattle.segment_store.specs.Orders.{AreOrdersOn, HasOrderOfTree}

-- the order, if it is known, is that of the games on boards of the shape
abbrev pub IsOrderOn : List Game → Shape → Option (Bor OrderGames) → Type 0
IsOrderOn games shape order = IfSome order (λ (o : Bor OrderGames). (o.now.shape ≡ shape) × AreOrdersOn games o.now)

pub may_stand : (games : List Game) (shape : Shape) (order : Option (Bor OrderGames)) → IsOrderOn games shape order → (g : ℕ) (game : Game) → slice_get games g ≡ Some game → game.tree.shape ≡ shape → (changes : Deltas) → AreNodeChanges game.tree changes →
    (placement : Placement) → IsPlacedOn game.tree.shape placement → (n : ℕ) → n < node_count changes → Holds changes.shape (position_at changes n) placement → MayStand order g shape placement
may_stand games shape None on g game there same changes of placement placed n lt holds = tt
may_stand games shape (Some o) (at, on) g game there same changes of placement placed n lt holds =
    let tree = subst (λ (h : Game). HasOrderOfTree o.now g h.tree) (get_or_from_slice_get games g game game there) (on.1 g game (slice_get_within games g game there)) in
    let has = tree (same ∙ sym at) changes of in
    let board : changes.shape ≡ shape = of.lead.same_shape ∙ same in
    subst (λ (s : Shape). StandsInOrder o.now g s placement) board
    (stands-in-order changes o.now placement g n (board ∙ sym at) has (subst (λ (s : Shape). IsPlacedOn s placement) (sym of.lead.same_shape) placed) lt holds)

-- the order is on boards of this shape
pub order-shape : (games : List Game) (shape other : Shape) (order : Option (Bor OrderGames)) → IsOrderOn games shape order → shape ≡ other → IfSome order (λ (o : Bor OrderGames). o.now.shape ≡ other)
order-shape games shape other None on same = tt
order-shape games shape other (Some o) on same = on.0 ∙ same
