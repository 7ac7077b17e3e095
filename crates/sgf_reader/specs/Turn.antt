-- For the reader's private functions: what the reader's own types for phases and turns mean to the
-- scan.
use Rattle.std.specs.Prelude.{◌≡◌, ℕ, List, Option, Some, None, Bool, true, false}
use Rattle.sgf_reader.specs.declared.place.Phase as phases
use Rattle.sgf_reader.specs.declared.place.Phase.TheVariants as at
use Rattle.sgf_reader.specs.declared.turn.Turn as turns
use Rattle.sgf_reader.specs.declared.turn.Turn.TheVariants as turn
use Rattle.sgf_reader.specs.declared.collection.Span.{Span}
use Rattle.sgf_reader.specs.Grammar.{SpelledGame}
use Rattle.sgf_reader.specs.Scan.{Phase, Opened, InNode, InName, AfterName, InValue, Escaped, AfterValue, AfterTree, Inside, Scan, at_phase, with_pair, with_node, with_bracket, closed, within}

-- the phase of the scan
abbrev pub phase_of : phases.Phase → Phase
phase_of (at.Opened from) = Opened from
phase_of at.InNode = InNode
phase_of (at.InName from upper) = InName from upper
phase_of (at.AfterName name) = AfterName name
phase_of (at.InValue name from) = InValue name from
phase_of (at.Escaped name from) = Escaped name from
phase_of (at.AfterValue name) = AfterValue name
phase_of at.AfterTree = AfterTree

-- a value ends at this offset
abbrev pub with_value : Inside → ℕ → Span → ℕ → Inside
with_value s at name from = record {
  at = s.at;
  parents = s.parents;
  last = s.last;
  nodes = with_pair s.nodes (record { name = name; value = record { from = from; to = at } });
  phase = AfterValue name;
}

-- where this turn leads the scan
abbrev pub apply_turn : List SpelledGame → Inside → ℕ → turns.Turn → Option Scan
apply_turn games s offset turn.Stay = within games s
apply_turn games s offset (turn.To phase) = within games (at_phase s (phase_of phase))
apply_turn games s offset (turn.EndValue name from) = within games (with_value s offset name from)
apply_turn games s offset (turn.BeginNode opened) = within games (with_node s opened offset)
apply_turn games s offset turn.Open = within games (with_bracket s offset)
apply_turn games s offset turn.Close = Some (closed games s s.parents)
apply_turn games s offset turn.Refuse = None

-- whether values of the last node may follow in this phase
abbrev pub is_in_node : phases.Phase → Bool
is_in_node (at.Opened from) = false
is_in_node at.AfterTree = false
is_in_node _ = true

-- Only in a node does a phase follow another one, and a value end.
abbrev pub StaysInNode : Bool → turns.Turn → Type 0
StaysInNode in_node (turn.To phase) = (in_node ≡ true) × (is_in_node phase ≡ true)
StaysInNode in_node (turn.EndValue name from) = in_node ≡ true
StaysInNode in_node _ = Unit {0}
