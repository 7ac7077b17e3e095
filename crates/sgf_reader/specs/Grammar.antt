-- The grammar of SGF FF[4] for whole texts: which text spells which games. Offsets count bytes from
-- the text's start.
use Rattle.std.specs.Prelude.{◌≡◌, ◌≢◌, ◌⊎◌, ℕ, ◌+◌, ◌-◌, ◌≤◌, List, [], ◌∷◌, ◌++◌, length, map, Option, Some, None, All, Any}
use Rattle.sgf_reader.specs.Bytes.{backslash, capital_a, capital_z, round_close, round_open, semicolon, small_a, small_z, space, square_close, square_open}
use Rattle.sgf_reader.specs.declared.collection.Span.{Span}
use Rattle.sgf_reader.specs.declared.collection.Pair.{Pair}
use Rattle.sgf_reader.specs.declared.collection.RawNode.{RawNode}
use Rattle.sgf_reader.specs.declared.collection.RawGame.{RawGame}
use Rattle.sgf_reader.specs.declared.collection.Collection.{Collection}

-- white space: bytes up to the space
abbrev pub IsWhite : List ℕ → Type 0
IsWhite text = All (λ (b : ℕ). b ≤ space) text

-- a letter `A` to `Z`
abbrev pub IsUpper : ℕ → Type 0
IsUpper b = (capital_a ≤ b) × (b ≤ capital_z)

-- a letter `A` to `Z` or `a` to `z`
abbrev pub IsLetter : ℕ → Type 0
IsLetter b = IsUpper b ⊎ ((small_a ≤ b) × (b ≤ small_z))

-- an identifier: letters without a gap, at least one of them upper-case
abbrev pub IsIdentifier : List ℕ → Type 0
IsIdentifier text = All IsLetter text × Any IsUpper text

-- What stands between the brackets of a value: no `]` and no backslash, but that a backslash takes
-- the special meaning of the next byte away.
pub data IsValue : List ℕ → Type 0 where
  nothing : IsValue []
  byte : {b : ℕ} {rest : List ℕ} →
      b ≢ square_close → b ≢ backslash → IsValue rest → IsValue (b ∷ rest)
  escaped : {b : ℕ} {rest : List ℕ} → IsValue rest → IsValue (backslash ∷ b ∷ rest)

-- the span of this text, which begins at this offset
abbrev pub span_of : ℕ → List ℕ → Span
span_of at text = record { from = at; to = at + length text }

-- The text, which begins at this offset, is any number of values, each in brackets `[` and `]` with
-- white space before it. They belong to the identifier with this span.
pub data AreValues (name : Span) : ℕ → List ℕ → List Pair → Type 0 where
  none : {at : ℕ} → AreValues name at [] []
  one_more : {at : ℕ} (white value rest : List ℕ) {pairs : List Pair} →
      IsWhite white →
      IsValue value →
      AreValues name (at + length (white ++ square_open ∷ value ++ square_close ∷ [])) rest pairs →
      AreValues name at (white ++ square_open ∷ value ++ square_close ∷ rest)
      (record { name = name; value = span_of (at + length white + 1) value } ∷ pairs)

-- The text is any number of properties, each an identifier and one value or more, with white space
-- before it.
pub data AreProperties : ℕ → List ℕ → List Pair → Type 0 where
  none : {at : ℕ} → AreProperties at [] []
  one_more : {at : ℕ} (white name values rest : List ℕ) (pairs more : List Pair) →
      IsWhite white →
      IsIdentifier name →
      AreValues (span_of (at + length white) name) (at + length (white ++ name)) values pairs →
      1 ≤ length pairs →
      AreProperties (at + length (white ++ name ++ values)) rest more →
      AreProperties at (white ++ name ++ values ++ rest) (pairs ++ more)

-- A node as it is spelled: the offset of the bracket before it, where it is the first of its tree;
-- the offset of its `;`; how many brackets are open there; the number of its parent; its values in
-- order of the text.
pub record SpelledNode : Type 0 where
  pub opened : Option ℕ
  pub at : ℕ
  pub depth : ℕ
  pub parent : Option ℕ
  pub pairs : List Pair

-- The text is any number of nodes, each a `;` and properties, with white space before it. So many
-- brackets are open there. The first has this number, this bracket before it and this parent; each
-- other is the child of the node before it.
pub data AreNodes (depth : ℕ) :
    (opened : Option ℕ) → (parent : Option ℕ) → (number : ℕ) → (at : ℕ) →
    List ℕ → List SpelledNode → Type 0 where
  none : {opened parent : Option ℕ} {number at : ℕ} → AreNodes depth opened parent number at [] []
  one_more : {opened parent : Option ℕ} {number at : ℕ} (white properties rest : List ℕ)
      {pairs : List Pair} {nodes : List SpelledNode} →
      IsWhite white →
      AreProperties (at + length white + 1) properties pairs →
      AreNodes depth None (Some number) (number + 1)
      (at + length (white ++ semicolon ∷ properties)) rest nodes →
      AreNodes depth opened parent number at (white ++ semicolon ∷ properties ++ rest)
      (record {
        opened =
            opened;
        at = at + length white;
        depth = depth;
        parent = parent;
        pairs = pairs;
      } ∷ nodes)

mutual
  -- The text is a tree: `(`, one or more nodes, any number of trees, `)`, with white space before
  -- each but the first. So many brackets are open before it. The first node has this number and
  -- this parent. The trees inside are children of the last of its own nodes. The tree's nodes are
  -- its own and then those of the trees inside.
  pub data IsTreeText : (depth : ℕ) → (parent : Option ℕ) → (number : ℕ) → (at : ℕ) →
      List ℕ → List SpelledNode → Type 0 where
    in_brackets : {depth : ℕ} {parent : Option ℕ} {number at : ℕ}
        (sequence inner white : List ℕ) (nodes inside : List SpelledNode) →
        AreNodes (depth + 1) (Some at) parent number (at + 1) sequence nodes →
        1 ≤ length nodes →
        AreTreeTexts (depth + 1) (Some (number + length nodes - 1)) (number + length nodes)
        (at + length (round_open ∷ sequence)) inner inside →
        IsWhite white →
        IsTreeText depth parent number at (round_open ∷ sequence ++ inner ++ white
        ++ round_close ∷ [])
        (nodes ++ inside)

  -- The text is any number of trees with white space before each, all with this parent.
  pub data AreTreeTexts : (depth : ℕ) → (parent : Option ℕ) → (number : ℕ) → (at : ℕ) →
      List ℕ → List SpelledNode → Type 0 where
    none : {depth : ℕ} {parent : Option ℕ} {number at : ℕ} →
        AreTreeTexts depth parent number at [] []
    one_more : {depth : ℕ} {parent : Option ℕ} {number at : ℕ}
        (white text rest : List ℕ) (nodes more : List SpelledNode) →
        IsWhite white →
        IsTreeText depth parent number (at + length white) text nodes →
        AreTreeTexts depth parent (number + length nodes) (at + length (white ++ text)) rest more →
        AreTreeTexts depth parent number at (white ++ text ++ rest) (nodes ++ more)

-- a tree starts where the text begins: `(`, white space, `;`
abbrev pub StartsTree : List ℕ → Type 0
StartsTree text = (white : List ℕ) × (rest : List ℕ) × IsWhite white ×
    (text ≡ round_open ∷ white ++ semicolon ∷ rest)

-- a game as it is spelled: the offset of its `(`, and its nodes in order of the text
pub record SpelledGame : Type 0 where
  pub at : ℕ
  pub nodes : List SpelledNode

-- The text, which begins at this offset, has these games. Outside trees each byte is skipped at
-- which no tree starts.
pub data HasGames : ℕ → List ℕ → List SpelledGame → Type 0 where
  end : {at : ℕ} → HasGames at [] []
  skipped : {at b : ℕ} {rest : List ℕ} {games : List SpelledGame} →
      ¬ StartsTree (b ∷ rest) → HasGames (at + 1) rest games → HasGames at (b ∷ rest) games
  with_game : {at : ℕ} (text rest : List ℕ) {nodes : List SpelledNode} {games : List SpelledGame} →
      IsTreeText 0 None 0 at text nodes →
      HasGames (at + length text) rest games →
      HasGames at (text ++ rest) (record { at = at; nodes = nodes } ∷ games)

-- The text spells these games, one or more.
abbrev pub SpellsGames : List SpelledGame → List ℕ → Type 0
SpellsGames games text = HasGames 0 text games × (1 ≤ length games)

-- the raw node of a spelled one
abbrev pub raw_node : SpelledNode → RawNode
raw_node node = record { parent = node.parent; pairs = node.pairs }

-- the raw game of a spelled one
abbrev pub raw_game : SpelledGame → RawGame
raw_game spelled = record { nodes = map raw_node spelled.nodes }

-- the collection of these games
abbrev pub collection_of : List SpelledGame → Collection
collection_of games = record { games = map raw_game games }
