-- How values, properties and nodes lead a reader on.
use Rattle.std.proofs.Common.{◌≡◌, ℕ, ◌+◌, ◌-◌, ◌≤◌, Bool, true, false, ap, sym, subst, refl, ◌∙◌, arith, List, [], ◌∷◌, ◌++◌, length, Some, None, Option, length-append, append_assoc, append-nil}
use Rattle.std.proofs.lemmas.List.Elements.{All-head, All-tail}
use Rattle.sgf_reader.specs.declared.collection.Span.{Span}
use Rattle.sgf_reader.specs.declared.collection.Pair.{Pair}
use Rattle.sgf_reader.specs.Grammar.{SpelledGame, SpelledNode, IsLetter, IsIdentifier, IsWhite, IsValue, AreValues, AreProperties, AreNodes, span_of}
use Rattle.sgf_reader.specs.Scan.{Scan, Within, Inside, Phase, InNode, InName, AfterName, InValue, AfterValue, is_upper, with_pair, with_node, step}
use Rattle.sgf_reader.proofs.Scans.{Leads, Leads-none, Leads-byte, Leads-one, Leads-then, Leads-to}
use Rattle.sgf_reader.proofs.Ways.{inside}
use Rattle.sgf_reader.proofs.Steps.{EndsNode, in_node, after_value, within_at, white-stays, node-stays, node-more, name-more, after_name-stays, name_behind, value-leads, letters-lead, has_upper, has_upper-any}

-- the last of these nodes has these pairs more
abbrev pub add_pairs : List SpelledNode → List Pair → List SpelledNode
add_pairs nodes [] = nodes
add_pairs nodes (pair ∷ pairs) = add_pairs (with_pair nodes pair) pairs

pub add_pairs-append : (nodes : List SpelledNode) (pairs more : List Pair) → add_pairs nodes (pairs ++ more) ≡ add_pairs (add_pairs nodes pairs) more
add_pairs-append nodes [] more = refl
add_pairs-append nodes (pair ∷ pairs) more = add_pairs-append (with_pair nodes pair) pairs more

-- the node with these pairs
abbrev pub paired : SpelledNode → List Pair → SpelledNode
paired node pairs = record { opened = node.opened; at = node.at; depth = node.depth; parent = node.parent; pairs = pairs }

pub with_pair-last : (nodes : List SpelledNode) (node : SpelledNode) (pair : Pair) → with_pair (nodes ++ node ∷ []) pair ≡ nodes ++ paired node (node.pairs ++ pair ∷ []) ∷ []
with_pair-last [] node pair = refl
with_pair-last (x ∷ []) node pair = refl
with_pair-last (x ∷ y ∷ nodes) node pair = ap (λ (ns : List SpelledNode). x ∷ ns) (with_pair-last (y ∷ nodes) node pair)

pub add_pairs-last : (nodes : List SpelledNode) (node : SpelledNode) (pairs : List Pair) → add_pairs (nodes ++ node ∷ []) pairs ≡ nodes ++ paired node (node.pairs ++ pairs) ∷ []
add_pairs-last nodes node [] = ap (λ (ps : List Pair). nodes ++ paired node ps ∷ []) (sym (append-nil node.pairs))
add_pairs-last nodes node (pair ∷ pairs) =
    ap (λ (ns : List SpelledNode). add_pairs ns pairs) (with_pair-last nodes node pair)
    ∙ add_pairs-last nodes (paired node (node.pairs ++ pair ∷ [])) pairs
    ∙ ap (λ (ps : List Pair). nodes ++ paired node ps ∷ []) (append_assoc node.pairs (pair ∷ []) pairs)

-- the nodes' number stays
pub with_pair-length : (nodes : List SpelledNode) (pair : Pair) → length (with_pair nodes pair) ≡ length nodes
with_pair-length [] pair = refl
with_pair-length (x ∷ []) pair = refl
with_pair-length (x ∷ y ∷ nodes) pair = let e = with_pair-length (y ∷ nodes) pair in omega (arith, e)

module _ (games : List SpelledGame) (a : ℕ) (parents : List (Option ℕ)) (last : Option ℕ) where
  -- a reader with these nodes in this phase
  abbrev pub reader : List SpelledNode → Phase → Scan
  reader nodes phase = inside games (within_at games a parents last nodes phase)

  -- behind white space and `[` the reader is in a value of this name
  abbrev pub TakesValue : Scan → ℕ → List SpelledNode → Span → Type 0
  TakesValue s at nodes name = (white : List ℕ) → IsWhite white → (t : Scan) × Leads s at white t × (step t.games t.place (at + length white) 91 ≡ Some (reader nodes (InValue name (at + length white + 1))))

  value_taken : (nodes : List SpelledNode) (name : Span) (phase : Phase) (s : Scan) (at : ℕ) → TakesValue s at nodes name → (white value : List ℕ) → IsWhite white → IsValue value → Leads s at ((white ++ 91 ∷ value) ++ 93 ∷ []) (reader (with_pair nodes (record { name = name; value = span_of (at + length white + 1) value })) (AfterValue name))
  value_taken nodes name phase s at takes white value w v =
      let begin = takes white w in
      let ends : step games (Within (within_at games a parents last nodes (InValue name (at + length white + 1)))) (at + length white + 1 + length value) 93 ≡ Some (reader (with_pair nodes (record { name = name; value = span_of (at + length white + 1) value })) (AfterValue name)) = refl in
      Leads-then {k = at + length white + 1 + length value} (omega (arith, length-append white (91 ∷ value)))
      (Leads-then {k = at + length white} refl begin.1 (Leads-byte begin.2 (value-leads games a parents last nodes name (at + length white + 1) (at + length white + 1) value v)))
      (Leads-one ends)

  takes_after_value : (nodes : List SpelledNode) (name : Span) (at : ℕ) → TakesValue (reader nodes (AfterValue name)) at nodes name
  takes_after_value nodes name at white w = (reader nodes (AfterValue name), white-stays _ (λ k b h. node-stays games a parents last nodes (AfterValue name) after_value k b h) white at w, refl)

  pub values_more : (name : Span) (nodes : List SpelledNode) (at : ℕ) (text : List ℕ) (pairs : List Pair) → AreValues name at text pairs → Leads (reader nodes (AfterValue name)) at text (reader (add_pairs nodes pairs) (AfterValue name))
  values_more name nodes at text pairs AreValues.none = Leads-none
  values_more name nodes at text pairs (AreValues.one_more white value rest {pairs = more} w v vs) =
      let first = value_taken nodes name (AfterValue name) (reader nodes (AfterValue name)) at (takes_after_value nodes name at) white value w v in
      let next = values_more name (with_pair nodes (record { name = name; value = span_of (at + length white + 1) value })) (at + length (white ++ 91 ∷ value ++ 93 ∷ [])) rest more vs in
      let whole = Leads-then refl first next in
      subst (λ (t : List ℕ). Leads (reader nodes (AfterValue name)) at t (reader (add_pairs (with_pair nodes (record { name = name; value = span_of (at + length white + 1) value })) more) (AfterValue name))) (append_assoc (white ++ 91 ∷ value) (93 ∷ []) rest) whole

  values_first : (nodes : List SpelledNode) (name : Span) (s : Scan) (at : ℕ) (text : List ℕ) (pairs : List Pair) → TakesValue s at nodes name → AreValues name at text pairs → 1 ≤ length pairs → Leads s at text (reader (add_pairs nodes pairs) (AfterValue name))
  values_first nodes name s at text pairs takes AreValues.none some = absurd (omega arith)
  values_first nodes name s at text pairs takes (AreValues.one_more white value rest {pairs = more} w v vs) some =
      let first = value_taken nodes name (AfterValue name) s at takes white value w v in
      let next = values_more name (with_pair nodes (record { name = name; value = span_of (at + length white + 1) value })) (at + length (white ++ 91 ∷ value ++ 93 ∷ [])) rest more vs in
      let whole = Leads-then refl first next in
      subst (λ (t : List ℕ). Leads s at t (reader (add_pairs (with_pair nodes (record { name = name; value = span_of (at + length white + 1) value })) more) (AfterValue name))) (append_assoc (white ++ 91 ∷ value) (93 ∷ []) rest) whole

  takes_name : (nodes : List SpelledNode) (from at : ℕ) → TakesValue (reader nodes (InName from true)) at nodes (record { from = from; to = at })
  takes_name nodes from at [] w =
      let e : at + length {A = ℕ} [] ≡ at = omega arith in
      let taken : step games (Within (within_at games a parents last nodes (InName from true))) at 91 ≡ Some (reader nodes (InValue (record { from = from; to = at }) (at + 1))) = refl in
      (reader nodes (InName from true), Leads-none, subst (λ (k : ℕ). step games (Within (within_at games a parents last nodes (InName from true))) k 91 ≡ Some (reader nodes (InValue (record { from = from; to = at }) (k + 1)))) (sym e) taken)
  takes_name nodes from at (b ∷ white) w = (
    reader nodes (AfterName (record { from = from; to = at })),
    Leads-byte (name_behind games a parents last nodes from at b (All-head (λ (c : ℕ). c ≤ 32) b white w)) (white-stays _ (λ k c h. after_name-stays games a parents last nodes (record { from = from; to = at }) k c h) white (at + 1) (All-tail (λ (c : ℕ). c ≤ 32) b white w)),
    refl,
  )

  identifier-leads : (nodes : List SpelledNode) (phase : Phase) → EndsNode phase → (at : ℕ) (name : List ℕ) → IsIdentifier name → Leads (reader nodes phase) at name (reader nodes (InName at true))
  identifier-leads nodes phase e at [] i = absurd (omega (arith, i.1.2))
  identifier-leads nodes phase e at (b ∷ bytes) i =
      let letters = letters-lead games a parents last nodes at (is_upper b) (at + 1) bytes (All-tail IsLetter b bytes i.0) in
      let upper : has_upper (is_upper b) bytes ≡ true = has_upper-any (b ∷ bytes) false i.1 in
      Leads-byte (name-more games a parents last nodes phase e at b (All-head IsLetter b bytes i.0))
      (Leads-to (ap (λ (u : Bool). reader nodes (InName at u)) upper) letters)

  pub properties-lead : (nodes : List SpelledNode) (phase : Phase) → EndsNode phase → (at : ℕ) (text : List ℕ) (pairs : List Pair) → AreProperties at text pairs → (after : Phase) × EndsNode after × Leads (reader nodes phase) at text (reader (add_pairs nodes pairs) after)
  properties-lead nodes phase e at text pairs AreProperties.none = (phase, e, Leads-none)
  properties-lead nodes phase e at text pairs (AreProperties.one_more white name values rest ps more w i vs some prs) =
      let begin = white-stays (reader nodes phase) (λ k b h. node-stays games a parents last nodes phase e k b h) white at w in
      let named = Leads-then {k = at + length white} refl begin (identifier-leads nodes phase e (at + length white) name i) in
      let span : Span = span_of (at + length white) name in
      let valued = Leads-then {k = at + length white + length name} (omega (arith, length-append white name)) named (values_first nodes span (reader nodes (InName (at + length white) true)) (at + length white + length name) values ps (takes_name nodes (at + length white) (at + length white + length name)) (subst (λ (k : ℕ). AreValues span k values ps) (omega (arith, length-append white name)) vs) some) in
      let next = properties-lead (add_pairs nodes ps) (AfterValue span) after_value (at + length (white ++ name ++ values)) rest more prs in
      (next.0, next.1, Leads-to (ap (λ (ns : List SpelledNode). reader ns next.0) (sym (add_pairs-append nodes ps more))) (Leads-then refl valued next.2))

-- the parent of what follows these nodes, of which the first has this number
abbrev pub last_of : Option ℕ → ℕ → List SpelledNode → Option ℕ
last_of last number [] = last
last_of last number (node ∷ nodes) = Some (number + length nodes)

pub last_of-some : (last : Option ℕ) (number : ℕ) (nodes : List SpelledNode) → 1 ≤ length nodes → last_of last number nodes ≡ Some (number + length nodes - 1)
last_of-some last number [] some = absurd (omega arith)
last_of-some last number (node ∷ nodes) some = let e : number + length nodes ≡ number + length (node ∷ nodes) - 1 = omega arith in ap (λ (k : ℕ). Some k) e

pub last_of-more : (last : Option ℕ) (number : ℕ) (node : SpelledNode) (nodes : List SpelledNode) → last_of (Some number) (number + 1) nodes ≡ last_of last number (node ∷ nodes)
last_of-more last number node [] = let e : number ≡ number + length {A = SpelledNode} [] = omega arith in ap (λ (k : ℕ). Some k) e
last_of-more last number node (x ∷ nodes) = let e : number + 1 + length nodes ≡ number + length (x ∷ nodes) = omega arith in ap (λ (k : ℕ). Some k) e

-- behind white space and `;` the reader is in a new node of the tree
pub record TakesNode (games : List SpelledGame) (s : Scan) (i : Inside) (opened : Option ℕ) : Type 0 where
  pub stays : (at b : ℕ) → b ≤ 32 → step s.games s.place at b ≡ Some s
  pub takes : (at : ℕ) → step s.games s.place at 59 ≡ Some (inside games (with_node i opened at))

module _ (games : List SpelledGame) (a : ℕ) (parents : List (Option ℕ)) where
  pub takes_within : (last : Option ℕ) (nodes : List SpelledNode) (phase : Phase) → EndsNode phase → TakesNode games (reader games a parents last nodes phase) (within_at games a parents last nodes phase) None
  takes_within last nodes phase e = record { stays = λ at b h. node-stays games a parents last nodes phase e at b h; takes = λ at. node-more games a parents last nodes phase e at }

  node-leads : (last opened : Option ℕ) (nodes : List SpelledNode) (phase : Phase) (s : Scan) (depth number : ℕ) → depth ≡ length parents → number ≡ length nodes → TakesNode games s (within_at games a parents last nodes phase) opened → (at : ℕ) (white properties : List ℕ) (pairs : List Pair) → IsWhite white → AreProperties (at + length white + 1) properties pairs → (after : Phase) × EndsNode after × Leads s at (white ++ 59 ∷ properties) (reader games a parents (Some number) (nodes ++ record { opened = opened; at = at + length white; depth = depth; parent = last; pairs = pairs } ∷ []) after)
  node-leads last opened nodes phase s depth number ed en t at white properties pairs w ps =
      let begin = white-stays s t.stays white at w in
      let node : SpelledNode = record { opened = opened; at = at + length white; depth = length parents; parent = last; pairs = [] } in
      let props = properties-lead games a parents (Some (length nodes)) (nodes ++ node ∷ []) InNode in_node (at + length white + 1) properties pairs ps in
      let with_pairs : add_pairs (nodes ++ node ∷ []) pairs ≡ nodes ++ paired node pairs ∷ [] = add_pairs-last nodes node pairs in
      let raw = Leads-to (ap (λ (ns : List SpelledNode). reader games a parents (Some (length nodes)) ns props.0) with_pairs) props.2 in
      let numbered : reader games a parents (Some (length nodes)) (nodes ++ paired node pairs ∷ []) props.0 ≡ reader games a parents (Some number) (nodes ++ record { opened = opened; at = at + length white; depth = depth; parent = last; pairs = pairs } ∷ []) props.0 = cc in
      (props.0, props.1, Leads-then {k = at + length white} refl begin (Leads-byte (t.takes (at + length white)) (Leads-to numbered raw)))

  pub nodes-lead : (depth : ℕ) → depth ≡ length parents → (last : Option ℕ) (nodes : List SpelledNode) (phase : Phase) (number : ℕ) → EndsNode phase → number ≡ length nodes → (at : ℕ) (text : List ℕ) (more : List SpelledNode) → AreNodes depth None last number at text more → (after : Phase) × EndsNode after × Leads (reader games a parents last nodes phase) at text (reader games a parents (last_of last number more) (nodes ++ more) after)
  nodes-lead depth ed last nodes phase number e en at text more (AreNodes.none) = (phase, e, Leads-to (ap (λ (ns : List SpelledNode). reader games a parents last ns phase) (sym (append-nil nodes))) Leads-none)
  nodes-lead depth ed last nodes phase number e en at text more (AreNodes.one_more white properties rest {pairs = pairs} {nodes = others} w ps ns) =
      let node : SpelledNode = record { opened = None; at = at + length white; depth = depth; parent = last; pairs = pairs } in
      let first = node-leads last None nodes phase (reader games a parents last nodes phase) depth number ed en (takes_within last nodes phase e) at white properties pairs w ps in
      let next = nodes-lead depth ed (Some number) (nodes ++ node ∷ []) first.0 (number + 1) first.1 (omega (arith, length-append nodes (node ∷ []))) (at + length (white ++ 59 ∷ properties)) rest others ns in
      let same : reader games a parents (last_of (Some number) (number + 1) others) ((nodes ++ node ∷ []) ++ others) next.0 ≡ reader games a parents (last_of last number (node ∷ others)) (nodes ++ node ∷ others) next.0 = cc (last_of-more last number node others, append_assoc nodes (node ∷ []) others) in
      (next.0, next.1, Leads-to same (Leads-then refl first.2 next.2))

  pub nodes-first : (last opened : Option ℕ) (nodes : List SpelledNode) (phase : Phase) (s : Scan) (depth number : ℕ) → depth ≡ length parents → number ≡ length nodes → TakesNode games s (within_at games a parents last nodes phase) opened → (at : ℕ) (text : List ℕ) (more : List SpelledNode) → AreNodes depth opened last number at text more → 1 ≤ length more → (after : Phase) × EndsNode after × Leads s at text (reader games a parents (Some (number + length more - 1)) (nodes ++ more) after)
  nodes-first last opened nodes phase s depth number ed en t at text more (AreNodes.none) some = absurd (omega arith)
  nodes-first last opened nodes phase s depth number ed en t at text more (AreNodes.one_more white properties rest {pairs = pairs} {nodes = others} w ps ns) some =
      let node : SpelledNode = record { opened = opened; at = at + length white; depth = depth; parent = last; pairs = pairs } in
      let first = node-leads last opened nodes phase s depth number ed en t at white properties pairs w ps in
      let next = nodes-lead depth ed (Some number) (nodes ++ node ∷ []) first.0 (number + 1) first.1 (omega (arith, length-append nodes (node ∷ []))) (at + length (white ++ 59 ∷ properties)) rest others ns in
      let same : reader games a parents (last_of (Some number) (number + 1) others) ((nodes ++ node ∷ []) ++ others) next.0 ≡ reader games a parents (Some (number + length (node ∷ others) - 1)) (nodes ++ node ∷ others) next.0 = cc (last_of-more last number node others, last_of-some last number (node ∷ others) some, append_assoc nodes (node ∷ []) others) in
      (next.0, next.1, Leads-to same (Leads-then refl first.2 next.2))
