-- How the numbers of the corners are made and kept: definitions for private functions.
use Rattle.std.specs.Prelude.{◌≡◌, ℕ, ◌*◌, ◌/◌, ◌%◌, ◌<◌, ◌≤◌, ◌↔◌, ◌==◌, if◌then◌else◌, List, length, map, slice_index, Contains}
use Rattle.std.specs.List.{range_with_len, between}
use Rattle.std.specs.List.Sorted.{IsStrictlyIncreasing}
use Rattle.node_paths.specs.StoredNodes.{part_start}
use Rattle.kb_geometry.specs.declared.shape.Shape.{Shape}
use Rattle.kb_geometry.specs.declared.stone.Change.{Change}
use Rattle.kb_geometry.specs.Board.{point_count}
use Rattle.kb_geometry.specs.Capture.{Position, cell_at}
use Rattle.capture_board.specs.Deltas.{Deltas, position_at}
use Rattle.corner_index.specs.declared.numbers.CornerNumbers.{CornerNumbers}
use Rattle.corner_index.specs.Corners.{HadNumber, corner_number, point_in_frame}

-- The point on a place of a corner's frame. The places are numbered row by row from 0 to 35.
abbrev pub point_on : ℕ → Shape → ℕ → ℕ
point_on corner shape place = point_in_frame corner shape (place % 6) (place / 6)

-- a corner of this position has this number, and the change can be made
pub record StandsBefore (corner : ℕ) (shape : Shape) (number : ℕ) (change : Change)
    (position : Position) : Type 0 where
  pub count : length position ≡ point_count shape
  pub old : change.old ≡ cell_at position change.point
  pub is : number ≡ corner_number corner shape position

-- the numbers of a corner at the first nodes
abbrev pub numbers_to : Deltas → ℕ → ℕ → List ℕ
numbers_to deltas corner count =
    map (λ n. corner_number corner deltas.shape (position_at deltas n)) (range_with_len 0 count)

-- the number of a corner, of those of all corners
abbrev pub number_in : ℕ → CornerNumbers → ℕ
number_in corner numbers =
    if corner == 0 then numbers.upper_left
    else if corner == 1 then numbers.upper_right
    else if corner == 2 then numbers.lower_left
    else numbers.lower_right

-- the numbers of one corner, of those of all corners at nodes
abbrev pub of_corner : ℕ → List CornerNumbers → List ℕ
of_corner corner nodes = map (number_in corner) nodes

-- these are the numbers of the corners in this position
abbrev pub AreNumbersOn : Shape → Position → CornerNumbers → Type 0
AreNumbersOn shape position numbers = (corner : ℕ) → corner < 4 →
    number_in corner numbers ≡ corner_number corner shape position

-- these are the numbers of the corners at the first nodes
abbrev pub AreNumbersTo : Deltas → ℕ → List CornerNumbers → Type 0
AreNumbersTo deltas count nodes = (corner : ℕ) → corner < 4 →
    of_corner corner nodes ≡ numbers_to deltas corner count

-- the corners of this position have these numbers, and the change can be made
pub record StandBefore (shape : Shape) (numbers : CornerNumbers) (change : Change)
    (position : Position) : Type 0 where
  pub count : length position ≡ point_count shape
  pub old : change.old ≡ cell_at position change.point
  pub are : AreNumbersOn shape position numbers

-- these are the numbers that a corner had
pub record AreNumbersOf (deltas : Deltas) (corner : ℕ) (keys : List ℕ) : Type 0 where
  pub ascending : IsStrictlyIncreasing keys
  pub exact : (key : ℕ) → Contains keys key ↔ HadNumber deltas corner key
  pub most : length keys ≤ 65536

-- where the keys of a corner end
abbrev pub end_of : List ℕ → ℕ → ℕ
end_of ends corner = slice_index ends corner

-- the keys of a corner: they begin where those of the corner before it end
abbrev pub keys_in : List ℕ → List ℕ → ℕ → List ℕ
keys_in ends keys corner = between (part_start (end_of ends) corner) (end_of ends corner) keys

-- the keys of all corners
abbrev pub shown_keys : List ℕ → List ℕ → List (List ℕ)
shown_keys ends keys = map (keys_in ends keys) (range_with_len 0 (length ends))

-- the keys of the first corners are parts of the list, each ascending
pub record ArePartsTo (count : ℕ) (ends keys : List ℕ) : Type 0 where
  pub four : length ends ≡ 4
  pub start : (corner : ℕ) → corner < count → part_start (end_of ends) corner ≤ end_of ends corner
  pub end : (corner : ℕ) → corner < count → end_of ends corner ≤ length keys
  pub ascending : (corner : ℕ) → corner < count → IsStrictlyIncreasing (keys_in ends keys corner)

-- the keys of the first corners of a game
pub record AreKeysTo (deltas : Deltas) (count : ℕ) (ends keys : List ℕ) : Type 0 where
  pub parts : ArePartsTo count ends keys
  pub exact : (corner : ℕ) → corner < count → (key : ℕ) →
      Contains (keys_in ends keys corner) key ↔ HadNumber deltas corner key
  pub whole : part_start (end_of ends) count ≡ length keys
  pub most : length keys ≤ 65536 * count
