use Rattle.import_work.specs.Judged.{AreFoundFiles}
use Rattle.import_work.specs.Reads.{file_texts}
use Rattle.import_work.proofs.pieces.found_each.Given as goal

abbrev pub invariant-loop-file : goal.invariant-loop-file
invariant-loop-file l = AreFoundFiles (file_texts l.yielded) l.found.items
