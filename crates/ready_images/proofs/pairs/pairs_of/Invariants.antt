use Rattle.std.proofs.Common.{◌≡◌, ℕ, ◌<◌, length, map}
use Rattle.std.specs.Prelude.{All}
use Rattle.pattern_images.specs.ImageList.{grid_at}
use Rattle.ready_images.specs.Pairs.{IsPairIn, pairs_at}
use Rattle.ready_images.proofs.pairs.pairs_of.Given as goal

-- the lists of the classes so far
abbrev pub invariant-loop-class : goal.invariant-loop-class
invariant-loop-class l = record {
  count : length l.lists.items ≡ l.class;
  each : (c : ℕ) → c < l.class → All (IsPairIn l.images.shape (grid_at l.images.grids c)) (pairs_at (map (λ v. v.items) l.lists.items) c);
}
