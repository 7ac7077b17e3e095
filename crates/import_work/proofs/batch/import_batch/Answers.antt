use Rattle.std.proofs.Common.{ap}
use Rattle.import_work.specs.Batches.{line_reports}
use Rattle.import_work.proofs.BatchLemmas.{batch_told}
use Rattle.import_work.proofs.LostFiles.{paid_untold}
use Rattle.import_work.proofs.Turns.{files_alone, games_counted, room_after, unread_paid}
use Rattle.import_work.proofs.batch.import_batch.Goals as goal

pub returns-clause-in_turn : goal.returns-clause-in_turn
returns-clause-in_turn g c = rw c.new.ensures (files_alone _ _ _ _ _ _ _ _ _ _ (ap line_reports c.new-lines.ensures.items) c.in_ok-segment.ensures.imported).in_turn

pub returns-clause-names : goal.returns-clause-names
returns-clause-names g c = rw c.new.ensures (files_alone _ _ _ _ _ _ _ _ _ _ (ap line_reports c.new-lines.ensures.items) c.in_ok-segment.ensures.imported).named

pub returns-clause-found : goal.returns-clause-found
returns-clause-found g c = λ files told.
    let h = files_alone _ _ _ _ _ _ _ _ _ _ (ap line_reports c.new-lines.ensures.items) c.in_ok-segment.ensures.imported in
    rw c.new.ensures (batch_told _ files c.args.path.now c.args.before _ _ _ _ _ told h.named h.in_turn)

pub returns-clause-unread : goal.returns-clause-unread
returns-clause-unread g c = rw c.new.ensures (unread_paid _ _ _ _ _ _ _ (files_alone _ _ _ _ _ _ _ _ _ _ (ap line_reports c.new-lines.ensures.items) c.in_ok-segment.ensures.imported).in_turn)

pub returns-clause-untold : goal.returns-clause-untold
returns-clause-untold g c = λ untold.
    rw c.new.ensures (paid_untold _ _ _ _ _ untold (unread_paid _ _ _ _ _ _ _ (files_alone _ _ _ _ _ _ _ _ _ _ (ap line_reports c.new-lines.ensures.items) c.in_ok-segment.ensures.imported).in_turn))

pub returns-clause-counted : goal.returns-clause-counted
returns-clause-counted g c = rw c.new.ensures (games_counted _ _ _ _ _ _ _ (files_alone _ _ _ _ _ _ _ _ _ _ (ap line_reports c.new-lines.ensures.items) c.in_ok-segment.ensures.imported).in_turn)

pub returns-clause-room : goal.returns-clause-room
returns-clause-room g c =
    let h = files_alone _ _ _ _ _ _ _ _ _ _ (ap line_reports c.new-lines.ensures.items) c.in_ok-segment.ensures.imported in
    room_after _ _ _ _ _ _ _ _ h.counted h.in_turn

pub returns-clause-added : goal.returns-clause-added
returns-clause-added g c = (files_alone _ _ _ _ _ _ _ _ _ _ (ap line_reports c.new-lines.ensures.items) c.in_ok-segment.ensures.imported).counted
