-- A placement goes on to hold as long as none of its wanted points changes.
use Rattle.std.proofs.Common.{◌≡◌, ◌↔◌, ℕ, ◌+◌, ◌<◌, List, length, sym, ap, ◌∙◌, subst, arith}
use Rattle.std.specs.Prelude.{All, slice_index_or}
use Rattle.capture_board.specs.Deltas.{Deltas}
use Rattle.kb_geometry.specs.Board.{point_count}
use Rattle.kb_geometry.specs.declared.shape.Shape.{Shape}
use Rattle.pattern_images.specs.ImageList.{IsPlacedOn}
use Rattle.pattern_images.specs.Placements.{Placement}
use Rattle.pattern_occurrences.specs.Occurrences.{HoldsAt}
use Rattle.ready_images.specs.Wants.{AreWantsOf, base_of, no_want}
use Rattle.ready_images.specs.declared.want.Want.{Want}
use Rattle.capture_index.specs.NodePositions.{NodePositions, count_in, positions_of}
use Rattle.capture_index.specs.Stretches.{AreWantedAt, IsUnchangedAt, is_wanted}
use Rattle.capture_index.proofs.WantsOfPlacements.{wanted-holds}
use Rattle.run_matcher.proofs.BegunNodes.{count-seen}

-- The placement lies on the board, its upper left point is the base, and the wants are those of its
-- cells.
pub record IsSought (shape : Shape) (placement : Placement) (base : ℕ) (wants : List Want) : Type 0 where
  pub placed : IsPlacedOn shape placement
  pub from : base ≡ base_of shape placement
  pub wanted : AreWantsOf shape placement.grid wants

-- so it is on a board of the same shape
module _ (here there : Shape) (same : here ≡ there) (placement : Placement) (base : ℕ) (wants : List Want) (from : base ≡ base_of here placement) where
  pub is-sought : IsPlacedOn here placement → AreWantsOf here placement.grid wants → IsSought there placement base wants
  is-sought placed wanted = subst (λ (s : Shape). IsSought s placement base wants) same (record { placed = placed; from = from; wanted = wanted })

  pub on-board : All (λ (w : Want). base_of here placement + w.offset < point_count here) wants → All (λ (w : Want). base + w.offset < point_count there) wants
  on-board on = subst (λ (s : Shape). All (λ (w : Want). base + w.offset < point_count s) wants) same (subst (λ (b : ℕ). All (λ (w : Want). b + w.offset < point_count here) wants) (sym from) on)

module _ (seen : NodePositions) (placement : Placement) (base : ℕ) (wants : List Want) (sought : IsSought seen.shape placement base wants) (deltas : Deltas) (is : seen ≡ positions_of deltas) (k : ℕ) (k_in : k < count_in seen) where
  same_shape : seen.shape ≡ deltas.shape
  same_shape = ap (λ (s : NodePositions). s.shape) is

  here : base ≡ base_of deltas.shape placement
  here = sought.from ∙ ap (λ (s : Shape). base_of s placement) same_shape

  wanted : AreWantedAt (positions_of deltas) (base_of deltas.shape placement) wants k ↔ HoldsAt deltas placement k
  wanted = wanted-holds deltas placement (subst (λ (s : Shape). IsPlacedOn s placement) same_shape sought.placed) wants (subst (λ (s : Shape). AreWantsOf s placement.grid wants) same_shape sought.wanted) k (omega (arith, k_in, ap count_in is, count-seen deltas))

  -- where all that it wants is met it holds
  pub met-holds : AreWantedAt seen base wants k → HoldsAt deltas placement k
  met-holds met = wanted.0 (subst (λ (s : NodePositions). AreWantedAt s (base_of deltas.shape placement) wants k) is (subst (λ (b : ℕ). AreWantedAt seen b wants k) here met))

  -- where it holds all that it wants is met
  holds-met : HoldsAt deltas placement k → AreWantedAt seen base wants k
  holds-met held = subst (λ (b : ℕ). AreWantedAt seen b wants k) (sym here) (subst (λ (s : NodePositions). AreWantedAt s (base_of deltas.shape placement) wants k) (sym is) (wanted.1 held))

pub holds-on : (seen : NodePositions) (placement : Placement) (base : ℕ) (wants : List Want) → IsSought seen.shape placement base wants → (n k : ℕ) → n < count_in seen → k < count_in seen →
    ((w : ℕ) → w < length wants → IsUnchangedAt seen base (slice_index_or wants w no_want) n k) →
    (deltas : Deltas) → seen ≡ positions_of deltas → HoldsAt deltas placement n → HoldsAt deltas placement k
holds-on seen placement base wants sought n k n_in k_in unchanged deltas is held =
    met-holds seen placement base wants sought deltas is k k_in
    (λ w lt. ap (is_wanted (slice_index_or wants w no_want)) (unchanged w lt) ∙ holds-met seen placement base wants sought deltas is n n_in held w lt)
