-- The faults of a text's syntax, and the first of them.
use Rattle.std.specs.Prelude.{◌≡◌, ◌⊎◌, ℕ, ◌+◌, ◌<◌, ◌≤◌, List, ◌∷◌, ◌++◌, length, take, Some, Contains}
use Rattle.sgf_reader.specs.declared.collection.Collection.{Collection}
use Rattle.sgf_reader.specs.declared.fault.FaultKind.{FaultKind}
use Rattle.sgf_reader.specs.declared.fault.FaultKind.TheVariants as kind
use Rattle.sgf_reader.specs.Limits.{most_bytes, most_games, most_nodes, most_open}
use Rattle.sgf_reader.specs.Grammar.{SpellsGames, SpelledGame, SpelledNode, StartsTree, collection_of}

-- The text is live: it is a prefix of some spelled text.
abbrev pub IsLive : List ℕ → Type 0
IsLive text = (rest : List ℕ) × (games : List SpelledGame) × SpellsGames games (text ++ rest)

-- a tree starts somewhere in the text
abbrev pub HasTreeStart : List ℕ → Type 0
HasTreeStart text = (before : List ℕ) × (rest : List ℕ) × (text ≡ before ++ rest) × StartsTree rest

-- Some spelled text with these games begins with the first bytes of this text, so many of them.
abbrev pub GoesOnAs : List ℕ → ℕ → List SpelledGame → Type 0
GoesOnAs text count games =
    (count ≤ length text) × ((rest : List ℕ) × SpellsGames games (take count text ++ rest))

-- the element stands in the list behind so many others
abbrev pub StandsAt : {A : Type 0} → List A → ℕ → A → Type 0
StandsAt {A} items count item =
    (before : List A) × (after : List A) × (items ≡ before ++ item ∷ after)
    × (length before ≡ count)

-- The byte at this offset is a bracket `(` that would be the first past the limit of open ones.
pub record IsTooDeep (text : List ℕ) (at : ℕ) : Type 0 where
  pub games : List SpelledGame
  pub game : SpelledGame
  pub node : SpelledNode
  pub goes_on : GoesOnAs text (at + 1) games
  pub among_games : Contains games game
  pub among_nodes : Contains game.nodes node
  pub opened : node.opened ≡ Some at
  pub past : node.depth ≡ most_open + 1

-- The byte at this offset is the `;` of a game's first node past the limit.
pub record IsNodeTooMany (text : List ℕ) (at : ℕ) : Type 0 where
  pub games : List SpelledGame
  pub game : SpelledGame
  pub node : SpelledNode
  pub goes_on : GoesOnAs text (at + 1) games
  pub among_games : Contains games game
  pub past : StandsAt game.nodes most_nodes node
  pub here : node.at ≡ at

-- The byte at this offset is the bracket `(` of the first game past the limit; the text goes on to
-- the `;` behind it.
pub record IsGameTooMany (text : List ℕ) (at : ℕ) : Type 0 where
  pub games : List SpelledGame
  pub game : SpelledGame
  pub root : SpelledNode
  pub goes_on : GoesOnAs text (root.at + 1) games
  pub past : StandsAt games most_games game
  pub first : StandsAt game.nodes 0 root
  pub here : game.at ≡ at

-- The text has this fault at this offset. Kinds of values aren't faults of the syntax.
pub data HasFault (text : List ℕ) : FaultKind → ℕ → Type 0 where
  no_game : IsLive text →
      ((games : List SpelledGame) → ¬ SpellsGames games text) →
      ¬ HasTreeStart text →
      HasFault text kind.NoGame (length text)
  ended : IsLive text →
      ((games : List SpelledGame) → ¬ SpellsGames games text) →
      HasTreeStart text →
      HasFault text kind.Ended (length text)
  unexpected : {at : ℕ} →
      at < length text →
      IsLive (take at text) →
      ¬ IsLive (take (at + 1) text) →
      HasFault text kind.Unexpected at
  too_long : most_bytes < length text → HasFault text kind.TooLong most_bytes
  too_deep : {at : ℕ} → IsTooDeep text at → HasFault text kind.TooDeep at
  too_many_nodes : {at : ℕ} → IsNodeTooMany text at → HasFault text kind.TooManyNodes at
  too_many_games : {at : ℕ} → IsGameTooMany text at → HasFault text kind.TooManyGames at

-- Of the faults of the text this is the one of least offset. At one offset TooLong comes before the
-- others.
pub record IsFirstFault (text : List ℕ) (of : FaultKind) (at : ℕ) : Type 0 where
  pub there : HasFault text of at
  pub first : (other : FaultKind) (offset : ℕ) →
      HasFault text other offset →
      (at < offset) ⊎ ((at ≡ offset) × ((other ≡ of) ⊎ (of ≡ kind.TooLong)))

-- The text has no fault, and spells these games.
pub record HasRead (text : List ℕ) (games : List SpelledGame) : Type 0 where
  pub spells : SpellsGames games text
  pub no_fault : (of : FaultKind) (at : ℕ) → ¬ HasFault text of at

-- The text has no fault, and this is the collection that it spells.
abbrev pub IsRead : List ℕ → Collection → Type 0
IsRead text collection = (games : List SpelledGame) × HasRead text games
    × (collection ≡ collection_of games)

-- The games are within the limits.
pub record AreWithinLimits (games : List SpelledGame) : Type 0 where
  pub few : length games ≤ most_games
  pub nodes : (game : SpelledGame) → Contains games game → length game.nodes ≤ most_nodes
  pub depths : (game : SpelledGame) →
      Contains games game →
      (node : SpelledNode) →
      Contains game.nodes node →
      node.depth ≤ most_open
