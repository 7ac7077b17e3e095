use Rattle.std.proofs.Common.{ℕ, ◌≤◌, ◌<◌, length, get_or}
use Rattle.kb_geometry.specs.declared.stone.Change.{Change}
use Rattle.capture_board.proofs.change_list.room.len_below.Given as goal

abbrev pub invariant-loop-len : goal.invariant-loop-len
invariant-loop-len l = record {
  most : l.len ≤ length l.changes;
  rest : (k : ℕ) (d : Change) → l.len ≤ k → k < length l.changes → l.from ≤ (get_or l.changes k d).point;
}

abbrev pub decreases-loop-len : goal.decreases-loop-len
decreases-loop-len l = l.len
