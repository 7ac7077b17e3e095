use Rattle.std.proofs.Common.{◌≡◌, take}
use Rattle.sgf_reader.proofs.nested.raw_game.Given as goal

abbrev pub invariant-loop-number : goal.invariant-loop-number
invariant-loop-number l = l.nodes.items ≡ take l.number l.fn.game.nodes
