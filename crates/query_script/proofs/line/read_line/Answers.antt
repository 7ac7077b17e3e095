use Rattle.std.proofs.Common.{subst}
use Rattle.query_script.specs.declared.line.Line.TheVariants as line
use Rattle.query_script.specs.Lines.{IsLine}
use Rattle.query_script.proofs.LineStatements.{skipped-line}
use Rattle.query_script.proofs.line.read_line.Goals as goal

pub returns-then-is_skipped : goal.returns-then-is_skipped
returns-then-is_skipped c =
    subst (λ text. IsLine text line.Skipped) c.without_end-line.ensures (skipped-line _ (c.is_skipped.ensures.0 c.if-is_skipped.true))
