use Rattle.std.proofs.Common.{◌≡◌, take}
use Rattle.import_work.specs.Judged.{games_in_files}
use Rattle.import_work.proofs.pieces.segment_of.Given as goal

abbrev pub invariant-loop-file : goal.invariant-loop-file
invariant-loop-file l = l.games ≡ games_in_files (take l.file-index l.files)
