use Rattle.std.proofs.Common.{◌≡◌, ◌≤◌, ◌++◌, length}
use Rattle.import_work.specs.Pieces.{group_texts}
use Rattle.import_work.specs.Reads.{file_texts}
use Rattle.import_work.proofs.pieces.grouped.Given as goal

abbrev pub invariant-loop-file : goal.invariant-loop-file
invariant-loop-file l = record {
  few : length l.groups.items ≤ 7;
  files : group_texts l.groups.items ++ file_texts l.group.items ≡ file_texts l.yielded;
}
