use Rattle.std.proofs.Common.{◌≡◌, ℕ, ◌<◌, slice_index}
use Rattle.kb_bits.proofs.bit_board.BitBoard.next_from.Given as goal

-- the words passed over have no bit
abbrev pub invariant-loop-k : goal.invariant-loop-k
invariant-loop-k l = record {
  from : l.first < l.k;
  passed : (j : ℕ) → l.first < j → j < l.k → slice_index l.self-inside.words j ≡ 0;
}
