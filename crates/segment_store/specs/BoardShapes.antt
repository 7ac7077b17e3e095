-- The shapes of the boards of games.
use Rattle.std.specs.Prelude.{◌≡◌, ◌≢◌, ◌⊎◌, ◌↔◌, Contains, List, map}
use Rattle.std.specs.List.{AllPairs}
use Rattle.kb_geometry.specs.declared.shape.Shape.{Shape}
use Rattle.node_position.specs.Games.{Game}

-- the shapes of the boards of games are these
abbrev pub HaveShapes : List Game → List Shape → Type 0
HaveShapes games shapes = (s : Shape) →
    Contains shapes s ↔ Contains (map (λ (g : Game). g.tree.shape) games) s

-- the new shapes are the old ones and this one
abbrev pub AreShapesWith : Shape → List Shape → List Shape → Type 0
AreShapesWith shape old new = (s : Shape) → Contains new s ↔ (Contains old s ⊎ (shape ≡ s))

-- no shape stands there twice
abbrev pub AreDifferent : List Shape → Type 0
AreDifferent shapes = AllPairs (λ s t. s ≢ t) shapes
