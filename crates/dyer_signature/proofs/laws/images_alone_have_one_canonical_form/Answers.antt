use Rattle.dyer_signature.proofs.ImageGroups.{canonical-image, image-canonical}
use Rattle.dyer_signature.proofs.laws.images_alone_have_one_canonical_form.Goals as goal

pub returns : goal.returns
returns c shape signature other form form_of_other on on_too is is_too = (
  canonical-image shape signature other on on_too form form_of_other is is_too,
  image-canonical shape signature other on on_too form form_of_other is is_too,
)
