-- The points that changes concern, by colours: definitions for the private functions.
use Rattle.std.specs.Prelude.{◌≡◌, ℕ, ◌⊎◌, ◌↔◌, List, [], Any, Contains}
use Rattle.kb_geometry.specs.declared.stone.Cell.{Cell}
use Rattle.kb_geometry.specs.declared.stone.Cell.TheVariants as stone
use Rattle.kb_geometry.specs.declared.stone.Change.{Change}
use Rattle.line_matcher.specs.declared.changed.Concerned.{Concerned}

-- the change is on this point, and has this stone before or after
abbrev pub Concerns : Cell → Change → ℕ → Type 0
Concerns s c p = (c.point ≡ p) × ((c.old ≡ s) ⊎ (c.new ≡ s))

-- the points where a change has this stone
abbrev pub ArePointsWith : Cell → List Change → List ℕ → Type 0
ArePointsWith s changes points =
    (p : ℕ) → Contains points p ↔ Any (λ (c : Change). Concerns s c p) changes

-- for each colour the points where a change has its stone
pub record AreConcerned (changes : List Change) (points : Concerned) : Type 0 where
  pub black : ArePointsWith stone.Black changes points.black
  pub white : ArePointsWith stone.White changes points.white

-- the points with that of a change, if the change has this stone
abbrev pub IsWithChange : Cell → Change → List ℕ → List ℕ → Type 0
IsWithChange s c old new = (p : ℕ) → Contains new p ↔ (Contains old p ⊎ Concerns s c p)

-- no point
abbrev pub no_points : Concerned
no_points = record { black = []; white = [] }
