use Rattle.std.proofs.Common.{◌≢◌, ℕ, ◌<◌, slice_index_or}
use Rattle.final_index.specs.Planes.{PlaneGames}
use Rattle.segment_store.proofs.block_planes.planes_with.Given as goal

abbrev pub invariant-loop-found : goal.invariant-loop-found
invariant-loop-found l = (k : ℕ) (d : PlaneGames) → k < l.found-index → (slice_index_or l.planes k d).shape ≢ l.fn.shape
