use Rattle.std.proofs.Common.{◌≤◌}
use Rattle.game_tree.specs.RawGames.{HasBuilt}
use Rattle.game_tree.proofs.game.read_others.Given as goal

abbrev pub invariant-loop-number : goal.invariant-loop-number
invariant-loop-number l = record {
  built : HasBuilt l.fn.text l.fn.raw l.fn.shape l.number l.builder;
  most : l.number ≤ l.number-end;
}
