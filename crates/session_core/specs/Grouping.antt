-- Definitions of the private functions that group double games.
use Rattle.std.specs.Prelude.{◌&&◌, ◌++◌, ℕ, Bool, true, false, List, [], ◌∷◌, map, zip, if◌then◌else◌}
use Rattle.std.specs.Borrow.{Bor}
use Rattle.std.specs.List.{flat_map}
use Rattle.dyer_signature.specs.declared.bytes.Signature.{Signature}
use Rattle.node_position.specs.Games.{Game}
use Rattle.query_script.specs.Texts.{double_text}
use Rattle.session_core.specs.declared.doubles.Numbers.{Numbers}
use Rattle.session_core.specs.declared.doubles.StoredKey.{StoredKey}
use Rattle.session_core.specs.Doubles.{DoubleKey, Group, is_same_key, tells_a_point}

-- the key that is stored
abbrev pub key_of : StoredKey → DoubleKey
key_of key = record { shape = key.shape; form = key.form.bytes }

-- the numbers that are stored
abbrev pub all_of : Numbers → List ℕ
all_of numbers = numbers.first ∷ numbers.others.items

-- the key of a game with the canonical form of its signature
abbrev pub key_with : Game → Signature → DoubleKey
key_with game form = record { shape = game.tree.shape; form = form.bytes }

-- the keys of games with these canonical forms, in order
abbrev pub keys_with : List (Bor Game) → List Signature → List DoubleKey
keys_with games forms = map (λ (p : Bor Game × Signature). key_with p.0.now p.1) (zip games forms)

-- a key and the numbers of the games with it
pub record Entry : Type 0 where
  pub key : DoubleKey
  pub games : List ℕ

-- the entry that is stored
abbrev pub entry_of : StoredKey × Numbers → Entry
entry_of e = record { key = key_of e.0; games = all_of e.1 }

-- the entries that are stored
abbrev pub entries_of : List (StoredKey × Numbers) → List Entry
entries_of es = map entry_of es

-- the entries with the number of a game more, behind all others of its key; a new key comes last
abbrev pub with_number : List Entry → DoubleKey → ℕ → List Entry
with_number [] key number = record { key = key; games = number ∷ [] } ∷ []
with_number (e ∷ es) key number =
    if is_same_key key e.key then record { key = e.key; games = e.games ++ number ∷ [] } ∷ es
    else e ∷ with_number es key number

-- whether there are two numbers at least
abbrev pub are_several : List ℕ → Bool
are_several [] = false
are_several (first ∷ []) = false
are_several (first ∷ second ∷ others) = true

-- whether the games with a key are a group
abbrev pub is_group : Entry → Bool
is_group e = are_several e.games && tells_a_point e.key

-- the group of an entry, or none
abbrev pub group_in : Entry → List Group
group_in e = if is_group e then record { form = e.key.form; games = e.games } ∷ [] else []

-- the lines of the group of an entry, or none
abbrev pub group_text : Entry → List ℕ
group_text e = flat_map (λ (g : Group). double_text g.form g.games) (group_in e)
