-- Every place that a scan reaches can be completed.
use Rattle.std.proofs.Common.{◌≡◌, ℕ, ◌+◌, ◌≤◌, List, [], ◌∷◌, ◌++◌, length, map, Bool, true, false, ◌||◌, ap, refl, ◌∙◌, arith, Some, Option}
use Rattle.sgf_reader.specs.declared.collection.Span.{Span}
use Rattle.sgf_reader.specs.declared.collection.Pair.{Pair}
use Rattle.sgf_reader.specs.Grammar.{SpelledNode, SpelledGame}
use Rattle.sgf_reader.specs.Scan.{Scan, Place, Outside, Before, Within, Inside, Phase, Opened, InNode, InName, AfterName, InValue, Escaped, AfterValue, AfterTree, with_pair, begun, step, scan, at_start}
use Rattle.sgf_reader.proofs.Scans.{Leads, Leads-byte, Leads-one}
use Rattle.sgf_reader.proofs.Ways.{out}
use Rattle.sgf_reader.proofs.Steps.{EndsTree, after_node, after_tree, in_node, after_value, within_at, tree-ends}
use Rattle.sgf_reader.proofs.SpelledNodes.{reader}
use Rattle.sgf_reader.proofs.Reached.{Reached, HasOpen, reached-open, reached-whole}

-- the node without its pairs
abbrev pub bare : SpelledNode → SpelledNode
bare node = record { opened = node.opened; at = node.at; depth = node.depth; parent = node.parent; pairs = [] }

-- how the nodes of the game that is completed begin, where it is completed at this offset: with the nodes so far; behind
-- a bracket there is one more, and in a property the last one has more pairs
abbrev pub CompletesNodes : Inside → Phase → ℕ → List SpelledNode → Type 0
CompletesNodes s (Opened from) at nodes = nodes ≡ s.nodes ++ record { opened = Some from; at = at; depth = length s.parents; parent = s.last; pairs = [] } ∷ []
CompletesNodes s InNode at nodes = nodes ≡ s.nodes
CompletesNodes s (InName from upper) at nodes = map bare nodes ≡ map bare s.nodes
CompletesNodes s (AfterName name) at nodes = map bare nodes ≡ map bare s.nodes
CompletesNodes s (InValue name from) at nodes = map bare nodes ≡ map bare s.nodes
CompletesNodes s (Escaped name from) at nodes = map bare nodes ≡ map bare s.nodes
CompletesNodes s (AfterValue name) at nodes = nodes ≡ s.nodes
CompletesNodes s AfterTree at nodes = nodes ≡ s.nodes

-- the game that is completed: that of the tree, where the place is in one
abbrev pub CompletesGame : Place → ℕ → SpelledGame → Type 0
CompletesGame Outside at game = 1 ≤ length game.nodes
CompletesGame (Before from) at game = 1 ≤ length game.nodes
CompletesGame (Within s) at game = (game.at ≡ s.at) × CompletesNodes s s.phase at game.nodes

-- bytes from this offset on that lead to a place outside trees, with one game more
pub record IsCompleted (s : Scan) (at : ℕ) : Type 0 where
  pub rest : List ℕ
  pub game : SpelledGame
  pub ends : scan s at rest ≡ Some (record { games = s.games ++ game ∷ []; place = Outside })
  pub completes : CompletesGame s.place at game

-- ---- the brackets

tree-closes : (games : List SpelledGame) (a : ℕ) (nodes : List SpelledNode) (p : Option ℕ) (parents : List (Option ℕ)) (last : Option ℕ) (phase : Phase) → EndsTree phase → (at : ℕ) → (rest : List ℕ) × Leads (reader games a (p ∷ parents) last nodes phase) at rest (out (games ++ record { at = a; nodes = nodes } ∷ []) Outside)
tree-closes games a nodes p [] last phase e at = (41 ∷ [], Leads-one (tree-ends games a (p ∷ []) last nodes phase e at))
tree-closes games a nodes p (q ∷ parents) last phase e at =
    let others = tree-closes games a nodes q parents p AfterTree after_tree (at + 1) in
    (41 ∷ others.0, Leads-byte (tree-ends games a (p ∷ q ∷ parents) last nodes phase e at) others.1)

pub bare-pair : (nodes : List SpelledNode) (pair : Pair) → map bare (with_pair nodes pair) ≡ map bare nodes
bare-pair [] pair = refl
bare-pair (x ∷ []) pair = refl
bare-pair (x ∷ y ∷ nodes) pair = ap (λ (ns : List SpelledNode). bare x ∷ ns) (bare-pair (y ∷ nodes) pair)

or_true : (x : Bool) → (x || true) ≡ true
or_true true = refl
or_true false = refl

module _ (games : List SpelledGame) (a : ℕ) (last : Option ℕ) (nodes : List SpelledNode) (p : Option ℕ) (parents : List (Option ℕ)) where
  abbrev Ends : Phase → ℕ → (List SpelledNode → Type 0) → Type 0
  Ends phase at P = (more : List SpelledNode) × P more × (rest : List ℕ) × Leads (reader games a (p ∷ parents) last nodes phase) at rest (out (games ++ record { at = a; nodes = more } ∷ []) Outside)

  closes-now : (phase : Phase) → EndsTree phase → (at : ℕ) → Ends phase at (λ more. more ≡ nodes)
  closes-now phase e at = let closing = tree-closes games a nodes p parents last phase e at in (nodes, refl, closing.0, closing.1)

  value-ends : (name : Span) (from at : ℕ) → Ends (InValue name from) at (λ more. map bare more ≡ map bare nodes)
  value-ends name from at =
      let pair : Pair = record { name = name; value = record { from = from; to = at } } in
      let closing = tree-closes games a (with_pair nodes pair) p parents last (AfterValue name) (after_node after_value) (at + 1) in
      let taken : step games (Within (within_at games a (p ∷ parents) last nodes (InValue name from))) at 93 ≡ Some (reader games a (p ∷ parents) last (with_pair nodes pair) (AfterValue name)) = refl in
      (with_pair nodes pair, bare-pair nodes pair, 93 ∷ closing.0, Leads-byte taken closing.1)

  before-value : (phase : Phase) (b at from : ℕ) (name : Span) → step games (Within (within_at games a (p ∷ parents) last nodes phase)) at b ≡ Some (reader games a (p ∷ parents) last nodes (InValue name from)) → Ends phase at (λ more. map bare more ≡ map bare nodes)
  before-value phase b at from name e =
      let then = value-ends name from (at + 1) in
      (then.0, then.1, b ∷ then.2, Leads-byte e then.3)

  name-ends : (from : ℕ) (upper : Bool) (at : ℕ) → Ends (InName from upper) at (λ more. map bare more ≡ map bare nodes)
  name-ends from upper at =
      let value : step games (Within (within_at games a (p ∷ parents) last nodes (InName from true))) (at + 1) 91 ≡ Some (reader games a (p ∷ parents) last nodes (InValue (record { from = from; to = at + 1 }) (at + 1 + 1))) = refl in
      let then = before-value (InName from true) 91 (at + 1) (at + 1 + 1) (record { from = from; to = at + 1 }) value in
      let taken : step games (Within (within_at games a (p ∷ parents) last nodes (InName from upper))) at 65 ≡ Some (reader games a (p ∷ parents) last nodes (InName from (upper || true))) = refl in
      let upper_now : Some (reader games a (p ∷ parents) last nodes (InName from (upper || true))) ≡ Some (reader games a (p ∷ parents) last nodes (InName from true)) = ap (λ (u : Bool). Some (reader games a (p ∷ parents) last nodes (InName from u))) (or_true upper) in
      (then.0, then.1, 65 ∷ then.2, Leads-byte (taken ∙ upper_now) then.3)

  phase-ends : (phase : Phase) (at : ℕ) → Ends phase at (CompletesNodes (within_at games a (p ∷ parents) last nodes phase) phase at)
  phase-ends (Opened from) at =
      let node : SpelledNode = record { opened = Some from; at = at; depth = length (p ∷ parents); parent = last; pairs = [] } in
      let closing = tree-closes games a (nodes ++ node ∷ []) p parents (Some (length nodes)) InNode (after_node in_node) (at + 1) in
      let taken : step games (Within (within_at games a (p ∷ parents) last nodes (Opened from))) at 59 ≡ Some (reader games a (p ∷ parents) (Some (length nodes)) (nodes ++ node ∷ []) InNode) = refl in
      (nodes ++ node ∷ [], refl, 59 ∷ closing.0, Leads-byte taken closing.1)
  phase-ends InNode at = closes-now InNode (after_node in_node) at
  phase-ends (InName from upper) at = name-ends from upper at
  phase-ends (AfterName name) at = before-value (AfterName name) 91 at (at + 1) name refl
  phase-ends (InValue name from) at = value-ends name from at
  phase-ends (Escaped name from) at = before-value (Escaped name from) 0 at from name refl
  phase-ends (AfterValue name) at = closes-now (AfterValue name) (after_node after_value) at
  phase-ends AfterTree at = closes-now AfterTree after_tree at

within-ends : (games : List SpelledGame) (a : ℕ) (parents : List (Option ℕ)) (last : Option ℕ) (nodes : List SpelledNode) (phase : Phase) (at : ℕ) → 1 ≤ length parents → IsCompleted (reader games a parents last nodes phase) at
within-ends games a [] last nodes phase at h = absurd (omega arith)
within-ends games a (p ∷ parents) last nodes phase at h =
    let e = phase-ends games a last nodes p parents phase at in
    record { rest = e.2; game = record { at = a; nodes = e.0 }; ends = e.3.scans; completes = (refl, e.1) }

place-ends : (games : List SpelledGame) (place : Place) (at : ℕ) → HasOpen place → IsCompleted (out games place) at
place-ends games Outside at h = record { rest = 40 ∷ 59 ∷ 41 ∷ []; game = record { at = at; nodes = (begun at (at + 1)).nodes }; ends = refl; completes = omega arith }
place-ends games (Before from) at h = record { rest = 59 ∷ 41 ∷ []; game = record { at = from; nodes = (begun from at).nodes }; ends = refl; completes = omega arith }
place-ends games (Within s) at h = within-ends games s.at s.parents s.last s.nodes s.phase at h

-- every place that is reached can be completed
pub reached-ends : (text : List ℕ) (count : ℕ) (s : Scan) → count ≤ length text → Reached text count s → (at : ℕ) → IsCompleted s at
reached-ends text count s h r at = place-ends s.games s.place at (reached-open text count s h r)

-- every place can be completed
pub scan-ends : (text : List ℕ) (s : Scan) → scan at_start 0 text ≡ Some s → IsCompleted s (length text)
scan-ends text s e = reached-ends text (length text) s (omega arith) (reached-whole text s e) (length text)
