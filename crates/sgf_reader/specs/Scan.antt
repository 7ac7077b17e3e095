-- For the reader's private functions: where a reader stands in a text, and how each byte leads it
-- on. What a text spells is said by the grammar alone; that the two agree is proved.
use Rattle.std.specs.Prelude.{ℕ, ◌+◌, List, [], ◌∷◌, ◌++◌, length, Option, Some, None, Bool, ◌||◌, ◌&&◌, nat_le, ◌==◌, option_and_then, if◌then◌else◌}
use Rattle.sgf_reader.specs.Bytes.{backslash, capital_a, capital_z, round_close, round_open, semicolon, small_a, small_z, space, square_close, square_open}
use Rattle.sgf_reader.specs.declared.collection.Span.{Span}
use Rattle.sgf_reader.specs.declared.collection.Pair.{Pair}
use Rattle.sgf_reader.specs.Grammar.{SpelledGame, SpelledNode}

-- what a reader inside a tree is at
pub data Phase : Type 0 where
  -- behind a `(`, with this offset, and white space: a `;` must follow
  Opened : ℕ → Phase
  -- behind a `;` and white space
  InNode : Phase
  -- in an identifier that begins at this offset, with an upper-case letter so far or without
  InName : ℕ → Bool → Phase
  -- behind an identifier and white space: a `[` must follow
  AfterName : Span → Phase
  -- in a value that begins at this offset
  InValue : Span → ℕ → Phase
  -- in a value, behind a backslash
  Escaped : Span → ℕ → Phase
  -- behind a value and white space: another value may follow
  AfterValue : Span → Phase
  -- behind a `)` and white space
  AfterTree : Phase

-- A reader inside a tree: the offset of the tree's `(`; for each open bracket the parent of its
-- first node, the innermost first; the node read last; the nodes so far; what it is at.
pub record Inside : Type 0 where
  pub at : ℕ
  pub parents : List (Option ℕ)
  pub last : Option ℕ
  pub nodes : List SpelledNode
  pub phase : Phase

-- where a reader stands: outside trees; behind a `(`, with this offset, and white space; inside a
-- tree
pub data Place : Type 0 where
  Outside : Place
  Before : ℕ → Place
  Within : Inside → Place

-- a reader: the games so far, and where it stands
pub record Scan : Type 0 where
  pub games : List SpelledGame
  pub place : Place

-- white space
abbrev pub is_white : ℕ → Bool
is_white b = nat_le b space

-- a letter `A` to `Z`
abbrev pub is_upper : ℕ → Bool
is_upper b = nat_le capital_a b && nat_le b capital_z

-- a letter
abbrev pub is_letter : ℕ → Bool
is_letter b = is_upper b || (nat_le small_a b && nat_le b small_z)

-- the phase is another one
abbrev pub at_phase : Inside → Phase → Inside
at_phase s phase = record {
  at = s.at;
  parents = s.parents;
  last = s.last;
  nodes = s.nodes;
  phase = phase;
}

-- the last of these nodes has one more value
abbrev pub with_pair : List SpelledNode → Pair → List SpelledNode
with_pair [] pair = []
with_pair (node ∷ []) pair = record {
  opened = node.opened;
  at = node.at;
  depth = node.depth;
  parent = node.parent;
  pairs = node.pairs
      ++ pair ∷ [];
} ∷ []
with_pair (node ∷ other ∷ nodes) pair = node ∷ with_pair (other ∷ nodes) pair

-- a node begins at this offset
abbrev pub with_node : Inside → Option ℕ → ℕ → Inside
with_node s opened at = record {
  at = s.at;
  parents = s.parents;
  last = Some (length s.nodes);
  nodes = s.nodes ++ record {
    opened = opened;
    at = at;
    depth = length s.parents;
    parent = s.last;
    pairs = [];
  } ∷ [];
  phase = InNode;
}

-- a bracket is opened at this offset
abbrev pub with_bracket : Inside → ℕ → Inside
with_bracket s at = record {
  at = s.at;
  parents = s.last ∷ s.parents;
  last = s.last;
  nodes = s.nodes;
  phase = Opened at;
}

-- a bracket is closed: the one that is open alone ends the game
abbrev pub closed : List SpelledGame → Inside → List (Option ℕ) → Scan
closed games s [] = record { games = games; place = Outside }
closed games s (parent ∷ []) =
    record { games = games ++ record { at = s.at; nodes = s.nodes } ∷ []; place = Outside }
closed games s (parent ∷ other ∷ parents) = record {
  games = games;
  place = Within (record {
    at = s.at;
    parents = other ∷ parents;
    last = parent;
    nodes = s.nodes;
    phase = AfterTree;
  });
}

-- the reader goes on within the tree
abbrev pub within : List SpelledGame → Inside → Option Scan
within games s = Some (record { games = games; place = Within s })

-- behind all values of a node's properties: a node, a tree or the end of the tree may follow
abbrev pub step_between : List SpelledGame → Inside → ℕ → ℕ → Option Scan
step_between games s at b =
    if b == round_open then within games (with_bracket s at)
    else if b == round_close then Some (closed games s s.parents)
    else None

-- behind a node: a node may follow
abbrev pub step_node : List SpelledGame → Inside → ℕ → ℕ → Option Scan
step_node games s at b =
    if b == semicolon then within games (with_node s None at)
    else if is_letter b then within games (at_phase s (InName at (is_upper b)))
    else step_between games s at b

-- One byte, at this offset, leads a reader inside a tree on, or no text of the grammar goes on so.
abbrev pub step_within : List SpelledGame → Inside → Phase → ℕ → ℕ → Option Scan
step_within games s (Opened from) at b =
    if is_white b then within games s
    else if b == semicolon then within games (with_node s (Some from) at)
    else None
step_within games s InNode at b = if is_white b then within games s else step_node games s at b
step_within games s (InName from upper) at b =
    if is_letter b then within games (at_phase s (InName from (upper || is_upper b)))
    else if upper then
    (if is_white b then within games (at_phase s (AfterName (record { from = from; to = at })))
    else if b == square_open then within games (at_phase s (InValue (record {
      from =
          from;
      to = at;
    }) (at + 1)))
    else None)
    else None
step_within games s (AfterName name) at b =
    if is_white b then within games s
    else if b == square_open then within games (at_phase s (InValue name (at + 1)))
    else None
step_within games s (InValue name from) at b =
    if b == square_close then within games (record {
      at = s.at;
      parents = s.parents;
      last = s.last;
      nodes = with_pair s.nodes (record { name = name; value = record { from = from; to = at } });
      phase = AfterValue name;
    })
    else if b == backslash then within games (at_phase s (Escaped name from))
    else within games s
step_within games s (Escaped name from) at b = within games (at_phase s (InValue name from))
step_within games s (AfterValue name) at b =
    if is_white b then within games s
    else if b == square_open then within games (at_phase s (InValue name (at + 1)))
    else step_node games s at b
step_within games s AfterTree at b = if is_white b then within games s else step_between games s at
    b

-- a game begins: the bracket at the first offset, the root's `;` at the second
abbrev pub begun : ℕ → ℕ → Inside
begun from at = with_node (record {
  at = from;
  parents = None ∷ [];
  last = None;
  nodes = [];
  phase = Opened from;
}) (Some from) at

-- One byte leads a reader on.
abbrev pub step : List SpelledGame → Place → ℕ → ℕ → Option Scan
step games Outside at b =
    Some (record { games = games; place = if b == round_open then Before at else Outside })
step games (Before from) at b =
    if is_white b then Some (record { games = games; place = Before from })
    else if b == semicolon then within games (begun from at)
    else Some (record { games = games; place = if b == round_open then Before at else Outside })
step games (Within s) at b = step_within games s s.phase at b

-- These bytes, the first at this offset, lead a reader on one after another.
abbrev pub scan : Scan → ℕ → List ℕ → Option Scan
scan s at [] = Some s
scan s at (b ∷ bytes) = option_and_then (λ t. scan t (at + 1) bytes) (step s.games s.place at b)

-- at the start of a text
abbrev pub at_start : Scan
at_start = record { games = []; place = Outside }

-- The place is outside trees.
pub data IsOutside : Place → Type 0 where
  outside : IsOutside Outside
  before : {at : ℕ} → IsOutside (Before at)
