use Rattle.std.proofs.Common.{◌≡◌, ◌++◌, map, take}
use Rattle.segment_store.specs.Blocks.{games_in}
use Rattle.segment_store.proofs.version_games.add_part.Given as goal

abbrev pub invariant-loop-numbered : goal.invariant-loop-numbered
invariant-loop-numbered l = map (λ g. g.now) l.games.items ≡ map (λ g. g.now) l.fn.games.items ++ games_in (take l.numbered-index l.numbered-items)
