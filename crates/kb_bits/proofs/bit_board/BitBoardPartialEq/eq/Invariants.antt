use Rattle.std.proofs.Common.{◌≡◌, ℕ, ◌<◌, slice_index}
use Rattle.kb_bits.proofs.bit_board.BitBoardPartialEq.eq.Given as goal

abbrev pub invariant-loop-k : goal.invariant-loop-k
invariant-loop-k l = (j : ℕ) → j < l.k → slice_index l.self-inside.words j ≡ slice_index l.other-inside.words j
