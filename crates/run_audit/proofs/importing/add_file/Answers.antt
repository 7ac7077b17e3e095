use Rattle.std.proofs.Common.{◌∙◌, ap, arith, length, length-append, sym, true≢false}
use Rattle.import_work.specs.Batches.{is_unread}
use Rattle.import_work.specs.Course.{games_from}
use Rattle.import_work.proofs.FileLemmas.{length-games_from}
use Rattle.import_work.proofs.RoomLemmas.{trees_in-games_from}
use Rattle.import_work.specs.declared.outcome.Counts.{Counts}
use Rattle.import_work.specs.Outcome.{with_games}
use Rattle.run_audit.proofs.FileSteps.{added-room, room-then}
use Rattle.run_audit.proofs.importing.add_file.Goals as goal

pub returns-clause-read : goal.returns-clause-read
returns-clause-read g c = λ all told.
    let is = c.in_ok-outcome.ensures.outcome all told (λ unread. true≢false (sym (ap is_unread unread) ∙ sym c.is_unread.ensures ∙ c.if-is_unread.false)) in record {
      bytes = is.0;
      trees = c.in_ok-outcome.trees.items;
      content = is.1;
      outcome_is = is.2;
      counted = c.in_ok-add_trees.ensures.counted;
      added = c.in_ok-add_trees.ensures.added;
    }

pub returns-clause-added : goal.returns-clause-added
returns-clause-added g c = record {
  added = games_from c.args.name.now 0 c.in_ok-outcome.trees.items;
  pushed = c.in_ok-add_trees.ensures.added;
  counted = c.in_ok-add_trees.ensures.counted ∙ ap (with_games c.args.counts.now) (sym (trees_in-games_from c.args.name.now 0 c.in_ok-outcome.trees.items));
}

pub returns-clause-few : goal.returns-clause-few
returns-clause-few g c =
    omega (arith, c.requires.few, ap length c.in_ok-add_trees.ensures.added, length-append c.args.games.now (games_from c.args.name.now 0 c.in_ok-outcome.trees.items), length-games_from c.args.name.now 0 c.in_ok-outcome.trees.items, ap (λ (k : Counts). k.games) c.in_ok-add_trees.ensures.counted)

pub returns-clause-room : goal.returns-clause-room
returns-clause-room g c =
    room-then c.args.counts.now c.add_trees.new.counts c.in_ok-outcome.trees.items c.args.games.now c.add_trees.new.games c.args.name.now (added-room c.args.counts.now c.in_ok-outcome.outcome c.in_ok-outcome.trees.items c.in_ok-outcome.ensures.added) c.in_ok-add_trees.ensures.counted c.in_ok-add_trees.ensures.added
