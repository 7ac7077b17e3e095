-- What is known of each stored place, told of its placement.
use Rattle.std.proofs.Common.{subst}
use Rattle.pattern_images.specs.ImageList.{AreImages}
use Rattle.pattern_images.proofs.StoredPlaces.{AreImages-stored}
use Rattle.pattern_images.proofs.image_list.Images.class_of.Goals as goal

pub returns-clause-images : goal.returns-clause-images
returns-clause-images c =
    subst AreImages c.self.view_is (AreImages-stored c.self.inside.shape c.self.inside.grids c.self.inside.places.items c.self.invariant)
