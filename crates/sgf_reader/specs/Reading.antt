-- For the reader's private functions: what was read so far, and which scan it shows.
use Rattle.std.specs.Prelude.{◌≡◌, ℕ, ◌<◌, ◌≤◌, List, [], ◌∷◌, ◌++◌, length, map, Option, Some, None, Bool, true, false}
use Rattle.sgf_reader.specs.declared.collection.Pair.{Pair}
use Rattle.sgf_reader.specs.declared.collection.RawNode.{RawNode}
use Rattle.sgf_reader.specs.declared.collection.RawGame.{RawGame}
use Rattle.sgf_reader.specs.declared.fault.FaultKind.TheVariants as kind
use Rattle.sgf_reader.specs.declared.fault.SgfFault.{SgfFault}
use Rattle.sgf_reader.specs.declared.flat.NodeStart.{NodeStart}
use Rattle.sgf_reader.specs.Flat.{IsFlat, last_end}
use Rattle.sgf_reader.specs.Limits.{most_games, most_nodes, most_open}
use Rattle.sgf_reader.specs.declared.place.Phase as phases
use Rattle.sgf_reader.specs.declared.place.Phase.TheVariants as at
use Rattle.sgf_reader.specs.declared.place.Place as places
use Rattle.sgf_reader.specs.declared.place.Place.TheVariants as stands
use Rattle.sgf_reader.specs.Grammar.{raw_node, raw_game}
use Rattle.sgf_reader.specs.Scan.{Inside, Place, Outside, Before, Within, Scan, step, within, with_node, with_bracket, begun}
use Rattle.sgf_reader.specs.Turn.{phase_of, is_in_node}

-- What was read so far: the games that have ended; the nodes of the game that has not; whether more
-- values of the last one may follow; for each open bracket the parent of its first node, the
-- innermost first; the parent of the next node.
pub record View : Type 0 where
  pub games : List RawGame
  pub nodes : List RawNode
  pub is_reading : Bool
  pub parents : List (Option ℕ)
  pub last : Option ℕ

-- What was read so far is stored flat. The nodes from this number on are those of the game that has
-- not ended; where more values of the last node may follow, it has one.
pub record IsFlatSoFar (pairs : List Pair) (nodes : List NodeStart) (ends : List ℕ) (first : ℕ)
    (is_reading : Bool) : Type 0 where
  pub flat : IsFlat pairs nodes ends
  pub first_is : first ≡ last_end 0 ends
  pub begun : is_reading ≡ true → first < length nodes

-- the last of these nodes has one more value
abbrev pub with_raw_pair : List RawNode → Pair → List RawNode
with_raw_pair [] pair = []
with_raw_pair (node ∷ []) pair = record { parent = node.parent; pairs = node.pairs ++ pair ∷ [] }
    ∷ []
with_raw_pair (node ∷ other ∷ nodes) pair = node ∷ with_raw_pair (other ∷ nodes) pair

-- one node more, without values so far
abbrev pub with_raw_node : View → View
with_raw_node v = record {
  games = v.games;
  nodes = v.nodes ++ record { parent = v.last; pairs = [] } ∷ [];
  is_reading = true;
  parents = v.parents;
  last = Some (length v.nodes);
}

-- one open bracket more
abbrev pub with_raw_bracket : View → View
with_raw_bracket v = record {
  games = v.games;
  nodes = v.nodes;
  is_reading = false;
  parents = v.last ∷ v.parents;
  last = v.last;
}

-- the innermost of these brackets is closed
abbrev pub closed_view : View → List (Option ℕ) → View
closed_view v [] =
    record { games = v.games; nodes = v.nodes; is_reading = false; parents = []; last = v.last }
closed_view v (parent ∷ []) = record {
  games = v.games ++ record { nodes = v.nodes } ∷ [];
  nodes = [];
  is_reading = false;
  parents = [];
  last = parent;
}
closed_view v (parent ∷ other ∷ parents) = record {
  games = v.games;
  nodes = v.nodes;
  is_reading = false;
  parents = other ∷ parents;
  last = parent;
}

-- where a reader stands when it is closed
abbrev pub closed_place : List (Option ℕ) → places.Place
closed_place [] = stands.Outside
closed_place (parent ∷ []) = stands.Outside
closed_place (parent ∷ other ∷ parents) = stands.Within at.AfterTree

-- inside a tree: this is what the scan has read
pub record ShowsInside (v : View) (now : phases.Phase) (s : Inside) : Type 0 where
  pub nodes : v.nodes ≡ map raw_node s.nodes
  pub parents : v.parents ≡ s.parents
  pub last : v.last ≡ s.last
  pub phase : s.phase ≡ phase_of now
  pub reading : v.is_reading ≡ is_in_node now
  pub is_open : 1 ≤ length s.parents

-- the reader stands where the scan does
pub data ShowsPlace (v : View) : places.Place → Place → Type 0 where
  none_open : v.nodes ≡ [] → v.parents ≡ [] → v.is_reading ≡ false →
      ShowsPlace v stands.Outside Outside
  may_begin : {from : ℕ} →
      v.nodes ≡ [] →
      v.parents ≡ [] →
      v.is_reading ≡ false →
      ShowsPlace v (stands.Before from) (Before from)
  inside : {phase : phases.Phase} {s : Inside} →
      ShowsInside v phase s →
      ShowsPlace v (stands.Within phase) (Within s)

-- what was read, and where the reader stands, are those of the scan
pub record Shows (v : View) (now : places.Place) (s : Scan) : Type 0 where
  pub games : v.games ≡ map raw_game s.games
  pub place : ShowsPlace v now s.place

-- the limits hold at this place, behind so many games
pub data IsWithinLimits (games : ℕ) : Place → Type 0 where
  few_outside : games ≤ most_games → IsWithinLimits games Outside
  few_before : {from : ℕ} → games ≤ most_games → IsWithinLimits games (Before from)
  few_inside : {s : Inside} →
      games < most_games →
      length s.parents ≤ most_open →
      length s.nodes ≤ most_nodes →
      IsWithinLimits games (Within s)

-- The scan goes on over this byte, to what was then read, and the limits hold.
pub record Leads (s : Scan) (offset byte : ℕ) (v : View) (now : places.Place) : Type 0 where
  pub next : Scan
  pub goes : step s.games s.place offset byte ≡ Some next
  pub shows : Shows v now next
  pub limits : IsWithinLimits (length next.games) next.place

-- At this byte is this fault.
pub data Fails (s : Scan) (offset byte : ℕ) : SgfFault → Type 0 where
  refused : step s.games s.place offset byte ≡ None →
      Fails s offset byte (record { kind = kind.Unexpected; at = offset })
  too_deep : (i : Inside) →
      step s.games s.place offset byte ≡ within s.games (with_bracket i offset) →
      length i.parents ≡ most_open →
      Fails s offset byte (record { kind = kind.TooDeep; at = offset })
  too_many_nodes : (i : Inside) (opened : Option ℕ) →
      step s.games s.place offset byte ≡ within s.games (with_node i opened offset) →
      length i.nodes ≡ most_nodes →
      Fails s offset byte (record { kind = kind.TooManyNodes; at = offset })
  too_many_games : (from : ℕ) →
      s.place ≡ Before from →
      step s.games s.place offset byte ≡ within s.games (begun from offset) →
      length s.games ≡ most_games →
      Fails s offset byte (record { kind = kind.TooManyGames; at = from })

-- From here this byte leads each scan that the reader shows on, to what was then read.
abbrev pub StepsOn : View → places.Place → ℕ → ℕ → View → places.Place → Type 0
StepsOn v now offset byte read next =
    (s : Scan) → Shows v now s → IsWithinLimits (length s.games) s.place →
    Leads s offset byte read next

-- From here this byte is a fault of each scan that the reader shows.
abbrev pub StepFails : View → places.Place → ℕ → ℕ → SgfFault → Type 0
StepFails v now offset byte fault =
    (s : Scan) → Shows v now s → IsWithinLimits (length s.games) s.place → Fails s offset byte fault

-- outside trees
abbrev pub IsPlaceOutside : places.Place → Type 0
IsPlaceOutside (stands.Within phase) = ⊥
IsPlaceOutside _ = Unit {0}

-- the text ends at this offset with this fault
pub data IsEndFault (v : View) (now : places.Place) (offset : ℕ) : SgfFault → Type 0 where
  has_ended : (phase : phases.Phase) →
      now ≡ stands.Within phase →
      IsEndFault v now offset (record { kind = kind.Ended; at = offset })
  has_no_game : IsPlaceOutside now →
      v.games ≡ [] →
      IsEndFault v now offset (record { kind = kind.NoGame; at = offset })
