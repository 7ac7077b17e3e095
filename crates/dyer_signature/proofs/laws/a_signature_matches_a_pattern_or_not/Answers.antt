use Rattle.dyer_signature.proofs.SomeCanonicalForm.{matches_or_not}
use Rattle.dyer_signature.proofs.laws.a_signature_matches_a_pattern_or_not.Goals as goal

pub returns : goal.returns
returns c = matches_or_not
