use Rattle.std.proofs.Common.{◌≡◌, ◌⊎◌, ◌≤◌, ◌+◌, [], List, ℕ, length, map, take}
use Rattle.std.specs.Prelude.{string_bytes}
use Rattle.kb_edges.specs.Told.{IfTold}
use Rattle.import_work.specs.Batches.{games_told, line_reports}
use Rattle.import_work.specs.Rooms.{AddsGames, AreCountsWithinLimits}
use Rattle.run_audit.specs.Courses.{ShowsImport}
use Rattle.run_audit.specs.Importing.{ReadsBy}
use Rattle.run_audit.specs.Shown.{is_shown_unread}
use Rattle.run_audit.proofs.importing.segment_of.Given as goal

-- the files of the names so far were read
abbrev pub invariant-loop-name : goal.invariant-loop-name
invariant-loop-name g l = record {
  same : g.F.Folder.files l.folder ≡ g.F.Folder.files l.fn.folder;
  later : g.F.Folder.faults l.fn.folder ≤ g.F.Folder.faults l.folder;
  few : length l.games ≤ l.counts.games;
  added : AddsGames l.fn.counts l.counts [] l.games;
  room : (l.games ≡ []) ⊎ AreCountsWithinLimits l.counts;
  told : l.counts.games + games_told (line_reports l.fn.lines.items) ≡ l.fn.counts.games + games_told (line_reports l.lines.items);
  read : IfTold (g.F.Folder.files l.fn.folder) (λ all. (recorded : List ℕ) → ShowsImport recorded l.shown →
      ReadsBy all l.path (is_shown_unread recorded l.shown.line) (map string_bytes (take l.name-index l.names)) l.fn.counts l.counts l.fn.lines.items l.lines.items l.games);
}
