use Rattle.dyer_signature.proofs.ImageGroups.{matches-image}
use Rattle.dyer_signature.proofs.laws.an_image_matches_where_its_signature_does.Goals as goal

pub returns : goal.returns
returns c = matches-image
