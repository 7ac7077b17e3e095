use Rattle.std.proofs.Common.{◌++◌, List, ℕ, length}
use Rattle.game_tree.specs.SimpleText.{IsSimpleText}
use Rattle.game_tree.specs.StoredInfo.{HasGrownBy}
use Rattle.game_tree.proofs.simple_text.append_simple_text.Given as goal

abbrev pub invariant-loop-rest : goal.invariant-loop-rest
invariant-loop-rest l =
    (more : List ℕ) → IsSimpleText l.rest more → HasGrownBy (IsSimpleText l.fn.value) l.fn.out.items (l.out.items ++ more)

abbrev pub decreases-loop-rest : goal.decreases-loop-rest
decreases-loop-rest l = length l.rest
