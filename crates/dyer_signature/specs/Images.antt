-- The images of a signature under the symmetries of its board, and the least of them.
use Rattle.std.specs.Prelude.{◌≡◌, ℕ, ◌<◌, List, length, Option}
use Rattle.std.specs.Cmp.Lexicographic.{slice_cmp}
use Rattle.std.specs.Option.{option_map}
use Rattle.std.specs.Ordering.{nat_cmp}
use Rattle.std.specs.declared.cmp.Ordering.TheVariants.{Less}
use Rattle.kb_geometry.specs.declared.shape.Shape.{Shape}
use Rattle.kb_geometry.specs.declared.shape.Point.{Point}
use Rattle.kb_geometry.specs.Symmetry.{IsAllowed, moved}
use Rattle.dyer_signature.specs.Signatures.{TellsAt}

-- the image of a signature under the symmetry with a number: each point is moved, and `??` stays
pub record IsImageUnder (shape : Shape) (number : ℕ) (signature image : List ℕ) : Type 0 where
  pub twelve : length image ≡ 12
  pub each : (place : ℕ) →
      place < 6 →
      (point : Option Point)
      × TellsAt signature place point
      × TellsAt image place (option_map (moved number shape) point)

-- an image of a signature: under one of the symmetries that the board allows
pub record IsSignatureImage (shape : Shape) (signature image : List ℕ) : Type 0 where
  pub number : ℕ
  pub is_symmetry : number < 8
  pub is_allowed : IsAllowed number shape
  pub is_moved : IsImageUnder shape number signature image

-- the first comes before the second by bytes
abbrev pub IsLess : List ℕ → List ℕ → Type 0
IsLess first second = slice_cmp nat_cmp first second ≡ Less

-- The canonical form of a signature: one of its images, and no image is less.
pub record IsCanonicalForm (shape : Shape) (signature form : List ℕ) : Type 0 where
  pub is_image : IsSignatureImage shape signature form
  pub is_least : (image : List ℕ) → IsSignatureImage shape signature image → ¬ IsLess image form
