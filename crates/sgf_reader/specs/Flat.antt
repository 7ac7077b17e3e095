-- How a collection is stored flat: all its values in one list, all its nodes in another, each with
-- the place of its first value, and of each game the place behind its last node.
use Rattle.std.specs.Prelude.{ℕ, ◌≤◌, List, [], ◌∷◌, length, map, drop, get_or}
use Rattle.std.specs.List.{between}
use Rattle.sgf_reader.specs.declared.collection.Collection.{Collection}
use Rattle.sgf_reader.specs.declared.collection.Pair.{Pair}
use Rattle.sgf_reader.specs.declared.collection.RawGame.{RawGame}
use Rattle.sgf_reader.specs.declared.collection.RawNode.{RawNode}
use Rattle.sgf_reader.specs.declared.flat.NodeStart.{NodeStart}

-- the nodes: the values of each go up to those of the next one, and of the last one up to the end
abbrev pub shown_nodes : List NodeStart → List Pair → List RawNode
shown_nodes [] pairs = []
shown_nodes (node ∷ []) pairs =
    record { parent = node.parent; pairs = drop node.values_from pairs } ∷ []
shown_nodes (node ∷ next ∷ nodes) pairs =
    record { parent = node.parent; pairs = between node.values_from next.values_from pairs }
    ∷ shown_nodes (next ∷ nodes) pairs

-- the games: each has the nodes from this place on, or from the end of the game before it, up to
-- its own end
abbrev pub games_behind : ℕ → List ℕ → List RawNode → List RawGame
games_behind from [] nodes = []
games_behind from (end ∷ ends) nodes =
    record { nodes = between from end nodes } ∷ games_behind end ends nodes

-- the games of a whole list of nodes
abbrev pub shown_games : List ℕ → List RawNode → List RawGame
shown_games ends nodes = games_behind 0 ends nodes

-- the collection
abbrev pub shown_collection : List Pair → List NodeStart → List ℕ → Collection
shown_collection pairs nodes ends = record { games = shown_games ends (shown_nodes nodes pairs) }

-- The values of nodes begin in order, from this place on, within a list of this length.
abbrev pub AreStarts : ℕ → List NodeStart → ℕ → Type 0
AreStarts from [] whole = from ≤ whole
AreStarts from (node ∷ nodes) whole =
    (from ≤ node.values_from) × AreStarts node.values_from nodes whole

-- The games end in order, from this place on, within a list of this length.
abbrev pub AreEnds : ℕ → List ℕ → ℕ → Type 0
AreEnds from [] whole = from ≤ whole
AreEnds from (end ∷ ends) whole = (from ≤ end) × AreEnds end ends whole

-- where the last game ends, or this place where there is none
abbrev pub last_end : ℕ → List ℕ → ℕ
last_end from [] = from
last_end from (end ∷ ends) = last_end end ends

-- where the values of the node with this number begin, or where all end behind the last node
abbrev pub start_of : List NodeStart → ℕ → List Pair → ℕ
start_of nodes number pairs =
    get_or (map (λ (node : NodeStart). node.values_from) nodes) number (length pairs)

-- a collection is stored so
pub record IsFlat (pairs : List Pair) (nodes : List NodeStart) (ends : List ℕ) : Type 0 where
  pub starts : AreStarts 0 nodes (length pairs)
  pub within : AreEnds 0 ends (length nodes)
