use Rattle.std.proofs.Common.{◌≡◌, ◌++◌, ℕ, List, length}
use Rattle.query_script.specs.Words.{AreBlanks}
use Rattle.query_script.proofs.words.without_blanks.Given as goal

abbrev pub invariant-loop-rest : goal.invariant-loop-rest
invariant-loop-rest l = (blanks : List ℕ) × (l.fn.text ≡ blanks ++ l.rest) × AreBlanks blanks

abbrev pub decreases-loop-rest : goal.decreases-loop-rest
decreases-loop-rest l = length l.rest
