-- The properties of a node: their identifiers and their values, as pieces of the text.
use Rattle.std.specs.Prelude.{◌≡◌, ℕ, ◌-◌, ◌<◌, ◌≤◌, List, [], ◌∷◌, ◌++◌, All, Option, Some, None, Bool, nat_le, ◌&&◌, filter, find, slice_get, slice_range, codes, if◌then◌else◌}
use Rattle.std.specs.Option.{option_map_or}
use Rattle.std.specs.Str.{bytes_eq}
use Rattle.kb_geometry.specs.declared.stone.Cell.{Cell}
use Rattle.kb_geometry.specs.declared.stone.Cell.TheVariants as cell
use Rattle.kb_geometry.specs.declared.stone.Colour.{Colour}
use Rattle.kb_geometry.specs.declared.stone.Colour.TheVariants as colour
use Rattle.game_tree.specs.declared.property.Property.{Property}
use Rattle.game_tree.specs.declared.property.Property.TheVariants as property
use Rattle.sgf_reader.specs.Bytes.{capital_a, capital_z, space}
use Rattle.sgf_reader.specs.declared.collection.Pair.{Pair}
use Rattle.sgf_reader.specs.declared.collection.RawGame.{RawGame}
use Rattle.sgf_reader.specs.declared.collection.RawNode.{RawNode}
use Rattle.sgf_reader.specs.declared.collection.Span.{Span}

-- the bytes of the text that a span covers
abbrev pub bytes_of : List ℕ → Span → List ℕ
bytes_of text span = slice_range text span.from span.to

-- a letter `A` to `Z`
abbrev pub is_upper : ℕ → Bool
is_upper b = nat_le capital_a b && nat_le b capital_z

-- the identifier of a value's property, without its lower-case letters
abbrev pub identifier_of : List ℕ → Pair → List ℕ
identifier_of text pair = filter is_upper (bytes_of text pair.name)

-- the value belongs to the property with this identifier
abbrev pub is_of : List ℕ → List ℕ → Pair → Bool
is_of text name pair = bytes_eq (identifier_of text pair) name

-- the offset of the value's `[`
abbrev pub offset_of : Pair → ℕ
offset_of pair = pair.value.from - 1

-- the side for which values of the property with this identifier are moves: B or W
abbrev pub mover_named : List ℕ → Option Colour
mover_named name =
    if bytes_eq name (codes "B") then Some colour.Black
    else if bytes_eq name (codes "W") then Some colour.White
    else None

-- the cell to which values of the property with this identifier set points: AB, AW or AE
abbrev pub setter_named : List ℕ → Option Cell
setter_named name =
    if bytes_eq name (codes "AB") then Some cell.Black
    else if bytes_eq name (codes "AW") then Some cell.White
    else if bytes_eq name (codes "AE") then Some cell.Empty
    else None

-- what values do at a node that are moves of this side, or set points to this cell
abbrev pub property_by : Option Colour → Option Cell → Property
property_by (Some side) setter = property.Moves side
property_by None (Some stone) = property.Sets stone
property_by None None = property.Other

-- what the values of the property with this identifier do at a node
abbrev pub property_named : List ℕ → Property
property_named name = property_by (mover_named name) (setter_named name)

-- the side whose move the value is, if it is one
abbrev pub mover_of : List ℕ → Pair → Option Colour
mover_of text pair = mover_named (identifier_of text pair)

-- the cell to which the value sets points, if it is a setup
abbrev pub setter_of : List ℕ → Pair → Option Cell
setter_of text pair = setter_named (identifier_of text pair)

-- the values of a game's root
abbrev pub root_pairs : RawGame → List Pair
root_pairs raw = option_map_or (λ (node : RawNode). node.pairs) (slice_get raw.nodes 0) []

-- the first value of a property at a game's root, if there is one
abbrev pub first_pair : List ℕ → RawGame → List ℕ → Option Pair
first_pair text raw name = find (is_of text name) (root_pairs raw)

-- White space, bytes up to the space, at either end of a value is ignored: what is left begins and
-- ends with other bytes.
pub record IsTrimmed (value inner : List ℕ) : Type 0 where
  pub before : List ℕ
  pub after : List ℕ
  pub split : value ≡ before ++ inner ++ after
  pub white_before : All (λ (b : ℕ). b ≤ space) before
  pub white_after : All (λ (b : ℕ). b ≤ space) after
  pub first : (b : ℕ) (rest : List ℕ) → inner ≡ b ∷ rest → space < b
  pub last : (b : ℕ) (rest : List ℕ) → inner ≡ rest ++ b ∷ [] → space < b
