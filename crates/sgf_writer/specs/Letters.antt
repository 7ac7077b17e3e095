-- For the writer's private functions: what of a board has letters.
use Rattle.std.specs.Prelude.{◌<◌}
use Rattle.kb_geometry.specs.declared.shape.Point.{Point}
use Rattle.kb_geometry.specs.declared.shape.Rect.{Rect}

-- the point's column and row have letters
abbrev pub HasLetter : Point → Type 0
HasLetter p = (p.x < 52) × (p.y < 52)

-- the corners' columns and rows have letters
abbrev pub HasLetters : Rect → Type 0
HasLetters r = (r.x0 < 52) × (r.y0 < 52) × (r.x1 < 52) × (r.y1 < 52)
