use Rattle.std.proofs.Common.{◌≡◌, ◌++◌, map, take}
use Rattle.segment_store.proofs.version_games.add_block.Given as goal

abbrev pub invariant-loop-at : goal.invariant-loop-at
invariant-loop-at l = map (λ g. g.now) l.games.items ≡ map (λ g. g.now) l.fn.games.items ++ take l.at l.block
