use Rattle.std.proofs.Common.{◌≡◌, take, cond}
use Rattle.game_tree.proofs.SecondMoves.{moves_in}
use Rattle.game_tree.proofs.root.second_move.Given as goal

abbrev pub invariant-loop-pair : goal.invariant-loop-pair
invariant-loop-pair l = moves_in l.fn.text (take l.pair-index l.fn.pairs) ≡ cond l.seen 1 0
