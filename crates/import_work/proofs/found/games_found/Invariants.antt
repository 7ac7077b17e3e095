use Rattle.std.proofs.Common.{◌≡◌, ◌≤◌, ◌*◌, length, map}
use Rattle.std.specs.Arc.{arc_value}
use Rattle.import_work.specs.Course.{games_from}
use Rattle.import_work.specs.Outcome.{nodes_of_trees}
use Rattle.import_work.proofs.found.games_found.Given as goal

abbrev pub invariant-loop-tree : goal.invariant-loop-tree
invariant-loop-tree l = record {
  placed : l.place ≡ length l.yielded;
  counted : l.nodes ≡ nodes_of_trees l.yielded;
  few : l.nodes ≤ length l.yielded * 65536;
  added : map arc_value l.games.items ≡ games_from l.name 0 l.yielded;
}
