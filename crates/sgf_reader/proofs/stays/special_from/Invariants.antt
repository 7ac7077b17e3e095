use Rattle.std.proofs.Common.{ℕ, ◌<◌, ◌≤◌, get_or}
use Rattle.sgf_reader.specs.Stays.{IsPlain}
use Rattle.sgf_reader.proofs.stays.special_from.Given as goal

abbrev pub invariant-loop-i : goal.invariant-loop-i
invariant-loop-i l = (k : ℕ) → l.from ≤ k → k < l.i → IsPlain (get_or l.text k 0)
