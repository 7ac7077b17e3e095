use Rattle.std.proofs.Common.{◌≢◌, ℕ, ◌<◌, slice_index_or}
use Rattle.ready_images.specs.Ready.{ReadyList}
use Rattle.search_engine.proofs.ready_query.ready_on.Given as goal

abbrev pub invariant-loop-found : goal.invariant-loop-found
invariant-loop-found l = (k : ℕ) (d : ReadyList) → k < l.found-index → (slice_index_or l.ready k d).images.shape ≢ l.fn.shape
