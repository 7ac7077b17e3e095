use Rattle.std.proofs.Common.{◌≡◌, ◌≤◌, ◌++◌, List, length, true}
use Rattle.import_work.specs.Batches.{line_reports}
use Rattle.import_work.specs.Judged.{AreFoundFiles, AreJudgedAs, games_in_files}
use Rattle.import_work.specs.Reads.{FileText}
use Rattle.import_work.proofs.judge.judge_files.Given as goal

abbrev pub invariant-loop-file : goal.invariant-loop-file
invariant-loop-file l = record {
  judged : (texts : List FileText) → AreFoundFiles texts l.yielded → AreJudgedAs texts l.fn.counts l.counts (line_reports l.fn.lines.items) (line_reports l.lines.items) l.fn.games l.games;
  counted : length l.games ≤ l.counts.games;
  whole : l.all ≡ true → l.games ≡ l.fn.games ++ games_in_files l.yielded;
}
