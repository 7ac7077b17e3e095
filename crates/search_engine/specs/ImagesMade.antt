-- The images of a query on boards of several shapes.
use Rattle.std.specs.Prelude.{List}
use Rattle.kb_geometry.specs.declared.shape.Shape.{Shape}
use Rattle.pattern_images.specs.declared.query.Query.{Query}
use Rattle.pattern_images.specs.ImageList.{ImageList}
use Rattle.pattern_images.specs.Placements.{ArePlacements}
use Rattle.ready_images.specs.Ready.{ReadyList}
use Rattle.pattern_images.specs.Query.{IsForBoard}

-- These are the images of the query on boards of some shape, on which it looks.
pub record AreImagesOn (query : Query) (images : ImageList) : Type 0 where
  pub for_board : IsForBoard query images.shape
  pub placements : ArePlacements query images.shape images.placements

-- the same of images that are made ready
abbrev pub AreReadyOn : Query → ReadyList → Type 0
AreReadyOn query ready = AreImagesOn query ready.images

-- a query, and the shapes of the boards on which it is looked for
pub record QueryOnShapes : Type 0 where
  pub query : Query
  pub shapes : List Shape
