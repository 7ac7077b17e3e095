use Rattle.dyer_signature.proofs.OneSignature.{signature-only, some_signature}
use Rattle.dyer_signature.proofs.laws.a_tree_has_one_signature.Goals as goal

pub returns-clause-some : goal.returns-clause-some
returns-clause-some c = some_signature

pub returns-clause-one : goal.returns-clause-one
returns-clause-one c tree a b is_tree = signature-only tree is_tree a b
