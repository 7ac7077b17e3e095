use Rattle.std.proofs.Common.{◌≡◌, ◌≤◌, map, take}
use Rattle.std.specs.Prelude.{string_bytes}
use Rattle.import_work.specs.Reads.{AreTexts, file_texts, text_names}
use Rattle.import_work.proofs.read.read_all.Given as goal

abbrev pub invariant-loop-name : goal.invariant-loop-name
invariant-loop-name g l = record {
  same : g.F.Folder.files l.folder ≡ g.F.Folder.files l.fn.folder;
  later : g.F.Folder.faults l.fn.folder ≤ g.F.Folder.faults l.folder;
  named : text_names (file_texts l.files.items) ≡ map string_bytes (take l.name-index l.names);
  read : AreTexts (g.F.Folder.files l.fn.folder) l.path (g.F.Folder.faults l.fn.folder) (file_texts l.files.items) (g.F.Folder.faults l.folder);
}
