-- Sets of points that have whole groups.
use Rattle.std.specs.Prelude.{ℕ, List, Contains}
use Rattle.kb_geometry.specs.declared.shape.Shape.{Shape}
use Rattle.kb_geometry.specs.Capture.{Position, IsInGroup}

-- the set has, with each of its points, the point's group
abbrev pub HasWholeGroups : Shape → Position → List ℕ → Type 0
HasWholeGroups shape position points = (p q : ℕ) → Contains points p →
    IsInGroup shape position p q → Contains points q
