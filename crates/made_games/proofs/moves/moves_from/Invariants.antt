use Rattle.std.proofs.Common.{◌≡◌, ◌<◌}
use Rattle.made_games.specs.Made.{made_moves, number_after}
use Rattle.made_games.proofs.moves.moves_from.Given as goal

abbrev pub invariant-loop-turn : goal.invariant-loop-turn
invariant-loop-turn l = record {
  made : l.moves.items ≡ made_moves l.fn.first l.turn;
  number : l.number ≡ number_after l.fn.first l.turn;
  below : l.number < 2147483648;
}
