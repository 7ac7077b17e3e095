use Rattle.opening_tree.proofs.PositionImages.{canonical-image, image-canonical}
use Rattle.opening_tree.proofs.laws.images_alone_have_one_canonical_position.Goals as goal

pub returns : goal.returns
returns c shape position other canonical canonical_of_other long long_too is is_too = (
  λ image. canonical-image shape position other canonical canonical_of_other long image is is_too,
  λ same. image-canonical shape position other canonical canonical_of_other long long_too is is_too same,
)
