use Rattle.std.proofs.Common.{List, Option}
use Rattle.std.proofs.lemmas.Result.{IfOk-weaker}
use Rattle.node_position.specs.Games.{Game}
use Rattle.import_work.specs.declared.outcome.Counts.{Counts}
use Rattle.std.proofs.lemmas.Option.{IfSome_then}
use Rattle.import_work.proofs.import.Work.next_segment.Goals as goal

pub returns-in-Files-clause-step : goal.returns-in-Files-clause-step
returns-in-Files-clause-step g c = rw c.in-Files.is c.next_segment.ensures.step

pub returns-in-Made-clause-step : goal.returns-in-Made-clause-step
returns-in-Made-clause-step g c =
    rw c.in-Made.is
    (IfOk-weaker c.next_segment-in-Made.result _ _
    (λ (taken : Option (List Game × Counts)) of. IfSome_then taken of (λ (r : List Game × Counts) is. is (g.F.Folder.files c.args.folder.now) (g.F.Folder.faults c.args.folder.now)))
    c.next_segment-in-Made.ensures.step)
