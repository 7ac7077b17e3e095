use Rattle.std.proofs.Common.{◌≡◌, ℕ, ◌+◌, ◌<◌, length, slice_index}
use Rattle.candidate_sieve.specs.Ordered.{IsCutInOrder}
use Rattle.candidate_sieve.proofs.order.SpanOrder.keep.Given as goal

-- the pairs so far
abbrev pub invariant-loop-k : goal.invariant-loop-k
invariant-loop-k l = record {
  count : length l.words ≡ length l.fn.words;
  kept : (i : ℕ) → i < length l.fn.words → IsCutInOrder l.self.order (l.self.base + i) l.self.pairs.now l.k (slice_index l.fn.words i) (slice_index l.words i);
}
