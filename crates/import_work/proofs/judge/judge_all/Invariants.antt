use Rattle.std.proofs.Common.{[], List}
use Rattle.import_work.specs.Batches.{line_reports}
use Rattle.import_work.specs.Judged.{AreFoundFiles, AreJudgedAs, files_in}
use Rattle.import_work.specs.Log.{games_of_segments}
use Rattle.import_work.specs.Reads.{FileText}
use Rattle.import_work.proofs.judge.judge_all.Given as goal

abbrev pub invariant-loop-piece : goal.invariant-loop-piece
invariant-loop-piece l =
    (texts : List FileText) → AreFoundFiles texts (files_in l.yielded) → AreJudgedAs texts l.fn.counts l.counts (line_reports l.fn.lines.items) (line_reports l.lines.items) [] (games_of_segments l.segments.items)
