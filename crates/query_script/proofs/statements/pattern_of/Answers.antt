use Rattle.std.proofs.Common.{◌≡◌, All, subst, sym}
use Rattle.dyer_signature.specs.Patterns.{IsSignaturePatternByte}
use Rattle.query_script.specs.Statements.{IsSignaturePattern}
use Rattle.query_script.proofs.statements.pattern_of.Goals as goal

pub returns-in-Ok-clause-some : goal.returns-in-Ok-clause-some
returns-in-Ok-clause-some c =
    let whole = c.in-Ok.ensures.1 in
    let same : c.args.bytes.now ≡ c.in-Ok.bytes = sym whole.same in
    let kinds : All IsSignaturePatternByte c.args.bytes.now = c.are_pattern_bytes.ensures.0 c.if-not-are_pattern_bytes.false in
    (same, subst IsSignaturePattern same (record { twelve = whole.long; kinds = kinds }))
