use Rattle.dyer_signature.proofs.ImageGroups.{canonical-only}
use Rattle.dyer_signature.proofs.SomeCanonicalForm.{some_canonical_form}
use Rattle.dyer_signature.proofs.laws.a_signature_has_one_canonical_form.Goals as goal

pub returns-clause-some : goal.returns-clause-some
returns-clause-some c = some_canonical_form

pub returns-clause-one : goal.returns-clause-one
returns-clause-one c = canonical-only
