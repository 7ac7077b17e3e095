use Rattle.std.proofs.lemmas.Result.{IfOk-weaker}
use Rattle.import_work.proofs.Judges.{all_given, judged-alone}
use Rattle.import_work.proofs.judge.judge_piece.Goals as goal

pub segment_of-requires : goal.segment_of-requires
segment_of-requires c = λ all. all_given c.args.piece.games _ _ _ c.requires c.new-own.ensures (c.in_ok-all.ensures.whole all)

pub returns : goal.returns
returns c = IfOk-weaker c.segment_of.result _ _ (λ segment is texts are. judged-alone texts _ _ _ _ _ _ segment (c.in_ok-all.ensures.judged texts are) c.new-own.ensures is) c.segment_of.ensures
