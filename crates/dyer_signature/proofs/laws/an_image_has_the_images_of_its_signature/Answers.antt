use Rattle.dyer_signature.proofs.ImageGroups.{same_images}
use Rattle.dyer_signature.proofs.laws.an_image_has_the_images_of_its_signature.Goals as goal

pub returns : goal.returns
returns c = same_images
