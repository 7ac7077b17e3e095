-- For the private functions that build trees: what the root of a game says.
use Rattle.std.specs.Prelude.{◌≡◌, ◌≢◌, ℕ, List, [], ◌∷◌, ◌++◌, Option, Some, None, codes, count_by, is_some, find}
use Rattle.sgf_reader.specs.declared.collection.Pair.{Pair}
use Rattle.sgf_reader.specs.declared.fault.FaultKind.TheVariants as kind
use Rattle.sgf_reader.specs.declared.fault.SgfFault.{SgfFault}
use Rattle.game_tree.specs.declared.property.Identifier.{Identifier}
use Rattle.game_tree.specs.Property.{IsTrimmed, bytes_of, is_of, mover_of, offset_of}
use Rattle.game_tree.specs.Information.{Information}
use Rattle.game_tree.specs.Trees.{IsTextOf}
use Rattle.game_tree.specs.ValueFaults.{IsBoardOf, IsMove}
use Rattle.kb_geometry.specs.declared.shape.Shape.{Shape}

-- the letters of an identifier
abbrev pub letters : Identifier → List ℕ
letters identifier = identifier.first ∷ identifier.second ∷ []

-- the first of these values that is of the property with this identifier
abbrev pub first_in : List ℕ → List Pair → List ℕ → Option Pair
first_in text pairs name = find (is_of text name) pairs

-- The value, a game's first one of GM, is neither empty nor `1`.
abbrev pub IsOtherGame : List ℕ → Pair → Type 0
IsOtherGame text pair =
    (inner : List ℕ) × IsTrimmed (bytes_of text pair.value) inner × (inner ≢ [])
    × (inner ≢ codes "1")

-- what the values of a root say of the game: nothing is wrong, or its first GM value is of another
-- game
pub data IsGameFault (text : List ℕ) (pairs : List Pair) : Option SgfFault → Type 0 where
  same_game : ((pair : Pair) → first_in text pairs (codes "GM") ≡ Some pair →
      ¬ IsOtherGame text pair) →
      IsGameFault text pairs None
  other_game : (pair : Pair) →
      first_in text pairs (codes "GM") ≡ Some pair →
      IsOtherGame text pair →
      IsGameFault text pairs (Some (record { kind = kind.NotGo; at = offset_of pair }))

-- what is wrong where the first SZ value of a root is no size
abbrev pub IsSizeFault : List ℕ → Option Pair → SgfFault → Type 0
IsSizeFault text size fault =
    (pair : Pair) ×
    (size ≡ Some pair) ×
    (fault ≡ record { kind = kind.BadSize; at = offset_of pair }) ×
    ((shape : Shape) → ¬ IsBoardOf text size shape)

-- a value that is the second move among these
pub record IsSecond (text : List ℕ) (pairs : List Pair) (pair : Pair) : Type 0 where
  pub before : List Pair
  pub after : List Pair
  pub split : pairs ≡ before ++ pair ∷ after
  pub moves : IsMove text pair
  pub counted : count_by (λ (p : Pair). is_some (mover_of text p)) before ≡ 1

-- what is wrong with the moves of a node: nothing, or a second one stands there
pub data IsSecondMove (text : List ℕ) (pairs : List Pair) : Option SgfFault → Type 0 where
  one_at_most : ((pair : Pair) → ¬ IsSecond text pairs pair) → IsSecondMove text pairs None
  second_stands : (pair : Pair) →
      IsSecond text pairs pair →
      IsSecondMove text pairs (Some (record { kind = kind.TwoMoves; at = offset_of pair }))

-- the information that these values of a root tell
pub record IsInformationIn (text : List ℕ) (pairs : List Pair) (info : Information) : Type 0 where
  pub black : IsTextOf text (first_in text pairs (codes "PB")) info.black
  pub white : IsTextOf text (first_in text pairs (codes "PW")) info.white
  pub event : IsTextOf text (first_in text pairs (codes "EV")) info.event
  pub place : IsTextOf text (first_in text pairs (codes "PC")) info.place
  pub date : IsTextOf text (first_in text pairs (codes "DT")) info.date
  pub outcome_text : IsTextOf text (first_in text pairs (codes "RE")) info.outcome_text
