-- The nodes at which wanted cells begin to stand, and how far a placement is known to hold in
-- stretches: definitions for the private functions.
use Rattle.std.specs.Prelude.{◌≡◌, ℕ, ◌<◌, ◌≤◌, IfSome, List}
use Rattle.capture_index.specs.declared.stretch.Stretch.{Stretch}
use Rattle.capture_index.specs.NodePositions.{NodePositions, count_in, parent_in}
use Rattle.capture_index.specs.Stretches.{AreWantedAt, IsIn}
use Rattle.ready_images.specs.declared.want.Want.{Want}
use Rattle.run_matcher.specs.declared.begun.Begun.{Begun}
use Rattle.run_matcher.specs.declared.begun.HoldsTo.{HoldsTo}
use Rattle.run_matcher.specs.declared.begun.HoldsTo.TheVariants as holding

-- at the node each want is met, and it is the root or some want isn't met at its parent
pub record BeginAt (seen : NodePositions) (base : ℕ) (wants : List Want) (n : ℕ) : Type 0 where
  pub in_range : n < count_in seen
  pub here : AreWantedAt seen base wants n
  pub before : IfSome (parent_in seen n) (λ m. ¬ AreWantedAt seen base wants m)

-- each node from a node on, as far as is known, is in the stretches
abbrev pub StaysIn : List Stretch → ℕ → HoldsTo → Type 0
StaysIn stretches node holds =
    (end k : ℕ) → holds ≡ holding.Known end → node ≤ k → k < end → IsIn stretches k

-- it is of the placement, and each node from its node on, as far as is known, is in the stretches
pub record IsKnownIn (stretches : List Stretch) (placement : ℕ) (b : Begun) : Type 0 where
  pub same : b.occurrence.placement ≡ placement
  pub on : StaysIn stretches b.occurrence.node b.holds
