use Rattle.std.proofs.Common.{ℕ, ◌<◌, ◌≤◌, slice_index_or}
use Rattle.capture_index.specs.NodePositions.{count_in}
use Rattle.capture_index.specs.Stretches.{IsUnchangedAt}
use Rattle.ready_images.specs.Wants.{no_want}
use Rattle.capture_index.proofs.run_index.RunIndex.unchanged_to.Given as goal

-- the wants so far
abbrev pub invariant-loop-want : goal.invariant-loop-want
invariant-loop-want l = record {
  more : l.node < l.to;
  most : l.to ≤ count_in l.self;
  stays : (k : ℕ) → l.node ≤ k → k < l.to → (w : ℕ) → w < l.want-index → IsUnchangedAt l.self l.base (slice_index_or l.wants w no_want) l.node k;
}
