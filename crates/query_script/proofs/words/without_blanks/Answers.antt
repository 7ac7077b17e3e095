use Rattle.query_script.proofs.LineWords.{one_more_blank}
use Rattle.query_script.proofs.words.without_blanks.Goals as goal

pub loop-rest-preserved : goal.loop-rest-preserved
loop-rest-preserved c = one_more_blank _ _ c.loop-rest.invariant c.in-len1-up.len_at_least (c.is_blank.ensures.0 c.if-not-is_blank.false)
