use Rattle.std.proofs.Common.{◌≡◌, ◌++◌, length}
use Rattle.import_work.specs.Course.{games_from}
use Rattle.import_work.specs.Outcome.{with_games}
use Rattle.run_audit.proofs.importing.add_trees.Given as goal

-- the games of the trees so far are added and counted
abbrev pub invariant-loop-tree : goal.invariant-loop-tree
invariant-loop-tree l = record {
  placed : l.place ≡ length l.yielded;
  added : l.games ≡ l.fn.games ++ games_from l.name 0 l.yielded;
  counted : l.counts ≡ with_games l.fn.counts l.yielded;
}
