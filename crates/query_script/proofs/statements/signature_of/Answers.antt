use Rattle.std.proofs.Common.{[], ◌∷◌, refl}
use Rattle.dyer_signature.specs.declared.bytes.SigPattern.{SigPattern}
use Rattle.query_script.specs.declared.statement.Statement.TheVariants as statement
use Rattle.query_script.specs.Statements.{IsStatement}
use Rattle.query_script.specs.Words.{bare}
use Rattle.query_script.proofs.Errors.{without_value}
use Rattle.query_script.proofs.statements.signature_of.Goals as goal

pub returns-in_err-rest-clause-none : goal.returns-in_err-rest-clause-none
returns-in_err-rest-clause-none c =
    let never : (pattern : SigPattern) → ¬ IsStatement c.args.words.now (statement.Signature pattern) =
    λ pattern is. c.in_err-rest.ensures.none refl (bare pattern.bytes ∷ []) is.0 in
    without_value _ never
