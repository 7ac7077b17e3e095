use Rattle.std.proofs.Common.{◌≡◌, ℕ, ◌<◌, ◌≤◌, slice_index}
use Rattle.kb_bits.proofs.bit_board.words_in_use.Given as goal

-- the words behind those that are left are 0
abbrev pub invariant-loop-used : goal.invariant-loop-used
invariant-loop-used l = record {
  fewer : l.used ≤ l.most;
  behind : (k : ℕ) → l.used ≤ k → k < l.most → slice_index l.words k ≡ 0;
}

abbrev pub decreases-loop-used : goal.decreases-loop-used
decreases-loop-used l = l.used
