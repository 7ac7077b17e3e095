-- Double games: games on one board with one canonical signature.
use Rattle.std.specs.Prelude.{◌≡◌, ◌==◌, ◌&&◌, ℕ, Bool, false, List, [], ◌∷◌, length, filter, not, slice_get, Some, if◌then◌else◌}
use Rattle.std.specs.List.{flat_map, list_any, range_with_len}
use Rattle.std.specs.Option.{option_map_or}
use Rattle.std.specs.Str.{bytes_eq}
use Rattle.kb_geometry.specs.declared.shape.Shape.{Shape}
use Rattle.kb_geometry.specs.Board.{cols_of, rows_of}
use Rattle.dyer_signature.specs.Signatures.{question_mark}
use Rattle.node_position.specs.Games.{Game}
use Rattle.session_core.specs.Signed.{HasSignature}

-- what double games have in common: the board, and the canonical form of the signature
pub record DoubleKey : Type 0 where
  pub shape : Shape
  pub form : List ℕ

-- the key of a game
pub record IsKeyOf (game : Game) (key : DoubleKey) : Type 0 where
  pub shape : key.shape ≡ game.tree.shape
  pub signature : List ℕ
  pub signed : HasSignature game.tree signature key.form

-- the keys of games, in order
pub record AreKeysOf (games : List Game) (keys : List DoubleKey) : Type 0 where
  pub as_many : length keys ≡ length games
  pub each : (k : ℕ) (game : Game) (key : DoubleKey) → slice_get games k ≡ Some game →
      slice_get keys k ≡ Some key → IsKeyOf game key

-- whether two keys are one
abbrev pub is_same_key : DoubleKey → DoubleKey → Bool
is_same_key a b = (cols_of a.shape == cols_of b.shape) && (rows_of a.shape == rows_of b.shape)
    && bytes_eq a.form b.form

-- whether the game with a number has this key
abbrev pub has_key : List DoubleKey → DoubleKey → ℕ → Bool
has_key keys key k = option_map_or (is_same_key key) (slice_get keys k) false

-- the numbers of the games with this key, ascending
abbrev pub numbers_of : List DoubleKey → DoubleKey → List ℕ
numbers_of keys key = filter (has_key keys key) (range_with_len 0 (length keys))

-- whether the number is the first one of these, and not the only one
abbrev pub is_first_of_several : ℕ → List ℕ → Bool
is_first_of_several k [] = false
is_first_of_several k (first ∷ []) = false
is_first_of_several k (first ∷ second ∷ others) = k == first

-- whether a byte of the key's signature isn't `?`
abbrev pub tells_a_point : DoubleKey → Bool
tells_a_point key = list_any (λ b. not (b == question_mark)) key.form

-- whether the game with this number, which has this key, is the first one of a group
abbrev pub begins_group_of : List DoubleKey → ℕ → DoubleKey → Bool
begins_group_of keys k key =
    is_first_of_several k (numbers_of keys key) && tells_a_point key

-- a group of double games: the canonical form of their signature, and their numbers
pub record Group : Type 0 where
  pub form : List ℕ
  pub games : List ℕ

-- the group of all games with a key
abbrev pub group_with : List DoubleKey → DoubleKey → Group
group_with keys key = record { form = key.form; games = numbers_of keys key }

-- the group of which the game with a number is the first one, or none
abbrev pub group_from : List DoubleKey → ℕ → List Group
group_from keys k = option_map_or
    (λ key. if begins_group_of keys k key then group_with keys key ∷ [] else [])
    (slice_get keys k) []

-- The groups of double games among games with these keys, by their first games: each has all games
-- with a key, two at least, and the signature tells a point.
abbrev pub groups_of : List DoubleKey → List Group
groups_of keys = flat_map (group_from keys) (range_with_len 0 (length keys))
