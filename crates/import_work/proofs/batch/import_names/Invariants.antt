use Rattle.std.proofs.Common.{◌≡◌, ◌≤◌}
use Rattle.std.specs.Slice.Iter.{chunks_rest}
use Rattle.import_work.specs.Batches.{line_reports}
use Rattle.import_work.specs.Log.{games_of_segments}
use Rattle.import_work.specs.Reads.{file_texts}
use Rattle.import_work.proofs.WaitingFiles.{HaveTexts}
use Rattle.import_work.proofs.batch.import_names.Given as goal

abbrev pub invariant-loop-chunk : goal.invariant-loop-chunk
invariant-loop-chunk g l = record {
  can_next : (goal.iterator-loop-chunk g).can_next l.chunk-iterator;
  finite : (goal.iterator-loop-chunk g).is_finite l.chunk-iterator;
  same : g.F.Folder.files l.folder ≡ g.F.Folder.files l.fn.folder;
  later : g.F.Folder.faults l.fn.folder ≤ g.F.Folder.faults l.folder;
  files : HaveTexts (g.F.Folder.files l.fn.folder) l.path l.names (chunks_rest l.chunk-iterator) l.fn.before l.counts (g.F.Folder.faults l.fn.folder) (g.F.Folder.faults l.folder) (line_reports l.fn.lines.items) (line_reports l.lines.items) (games_of_segments l.segments.items) (file_texts l.waiting.items);
}
