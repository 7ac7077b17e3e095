use Rattle.std.proofs.Common.{◌∙◌, ap, arith, rules}
use Rattle.std.proofs.lemmas.List.{take_all}
use Rattle.import_work.specs.Judged.{games_in_files}
use Rattle.import_work.proofs.FoundPieces.{games-more}
use Rattle.import_work.proofs.pieces.segment_of.Goals as goal

pub loop-file-preserved : goal.loop-file-preserved
loop-file-preserved c =
    games-more c.args.files.now c.loop-file.file-index c.file-item.result _ _ c.loop-file-test.true c.file-item.is c.loop-file.invariant (c.in_ok-share_found.ensures (search rules))

pub returns : goal.returns
returns c = c.in_ok-finish.ensures ∙ c.loop-file.invariant ∙ ap games_in_files (take_all c.loop-file.file-index c.args.files.now (omega arith))
