use Rattle.std.proofs.Common.{◌≡◌, ◌-◌, drop, length, take}
use Rattle.import_work.proofs.StepLemmas.{some_by_test, step_taken}
use Rattle.import_work.proofs.files.FileWork.next_segment.Goals as goal

pub returns-clause-step : goal.returns-clause-step
returns-clause-step g c =
    let files = c.args.self.now in
    let slice = c.deref.result.now in
    let same : slice ≡ files.names.items = c.deref.ensures.value in
    let some = some_by_test (take (length slice - files.next) (drop files.next slice)) c.is_empty.result c.is_empty.ensures c.if-is_empty.false in
    λ line number given.
    step_taken _ files.path line number given c.args.batch files.next c.min-count.result files.listing files.names.items slice c.args.before c.in_ok-segment.after files.lines.items c.import_names.new.lines.items c.in_ok-segment.segment _ _ same c.requires.kept.listed some c.min-count.ensures (rw c.as_str.ensures at c.in_ok-segment.ensures.imported)
