use Rattle.std.proofs.Common.{◌≡◌, ◌≤◌, ◌+◌, All, List, ℕ, length, map}
use Rattle.std.specs.Prelude.{string_bytes}
use Rattle.std.specs.Slice.Iter.{chunks_rest, chunks_size}
use Rattle.kb_edges.specs.Files.{HasFile}
use Rattle.kb_edges.specs.Told.{IfTold}
use Rattle.import_work.specs.Batches.{games_told, line_reports}
use Rattle.run_audit.specs.Courses.{ShowsImport}
use Rattle.run_audit.specs.Shown.{is_shown_unread}
use Rattle.run_audit.specs.Standing.{FitsTogether, kept_last}
use Rattle.run_audit.specs.Importing.{FilesTo}
use Rattle.run_audit.proofs.importing.import_names.Given as goal

-- the batches so far are behind all others
abbrev pub invariant-loop-chunk : goal.invariant-loop-chunk
invariant-loop-chunk g l = record {
  can_next : (goal.iterator-loop-chunk g).can_next l.chunk-iterator;
  finite : (goal.iterator-loop-chunk g).is_finite l.chunk-iterator;
  size : chunks_size l.chunk-iterator ≡ l.batch;
  same : g.F.Folder.files l.folder ≡ g.F.Folder.files l.fn.folder;
  later : g.F.Folder.faults l.fn.folder ≤ g.F.Folder.faults l.folder;
  fits : FitsTogether l.base;
  number : kept_last l.base + length (chunks_rest l.chunk-iterator) ≤ kept_last l.fn.base + length l.names;
  held : l.base.held ≡ l.fn.base.held;
  told : l.base.counts.games ≡ l.fn.base.counts.games + games_told (line_reports l.lines.items);
  there : IfTold (g.F.Folder.files l.fn.folder) (λ all. All (HasFile all l.path) (map string_bytes (chunks_rest l.chunk-iterator)));
  files : IfTold (g.F.Folder.files l.fn.folder) (λ all. (recorded : List ℕ) → ShowsImport recorded l.shown →
      FilesTo all l.path l.batch (is_shown_unread recorded l.shown.line) (map string_bytes l.names) (map string_bytes (chunks_rest l.chunk-iterator)) l.fn.base l.base l.lines.items);
}
