use Rattle.std.proofs.Common.{◌≡◌, ℕ, ◌<◌, [], length}
use Rattle.search_engine.specs.Gathering.{begun_at}
use Rattle.search_engine.proofs.block_occurrences.GameOccurrences.clear.Given as goal

abbrev pub invariant-loop-at : goal.invariant-loop-at
invariant-loop-at l = record {
  count : length l.self-inside.lists.items ≡ 64;
  none : (g : ℕ) → g < l.at → begun_at l.self-inside.lists.items g ≡ [];
}
