use Rattle.std.proofs.Common.{◌≤◌}
use Rattle.sgf_cases.proofs.recogniser.spelled_games.Given as goal

abbrev pub invariant-loop : goal.invariant-loop
invariant-loop l = l.games ≤ l.counter
