use Rattle.std.proofs.Common.{◌≡◌, map, take}
use Rattle.import_work.specs.Course.{trees_in}
use Rattle.import_work.specs.Outcome.{nodes_of_trees}
use Rattle.serial_run.proofs.counts.node_count.Given as goal

abbrev pub invariant-loop-game : goal.invariant-loop-game
invariant-loop-game l = l.nodes ≡ nodes_of_trees (trees_in (map (λ g. g.now) (take l.game-index l.games)))
