use Rattle.query_script.proofs.LineStatements.{skipped, skipped-remark}
use Rattle.query_script.proofs.line.is_skipped.Goals as goal

pub returns : goal.returns
returns c = (
  (λ yes_. skipped _ _ c.without_blanks.ensures.split (c.is_remark.ensures.0 yes_)),
  (λ skip. c.is_remark.ensures.1 (skipped-remark _ _ c.without_blanks.ensures.split c.without_blanks.ensures.first skip)),
)
