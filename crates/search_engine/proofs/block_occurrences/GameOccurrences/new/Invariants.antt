use Rattle.std.proofs.Common.{◌≡◌, length}
use Rattle.search_engine.proofs.block_occurrences.GameOccurrences.new.Given as goal

abbrev pub invariant-loop-game : goal.invariant-loop-game
invariant-loop-game l = length l.lists.items ≡ l._game
