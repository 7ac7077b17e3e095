-- A spelled text has no fault just where it is within the limits.
use Rattle.std.proofs.Common.{◌≡◌, inl, inr, ℕ, ◌+◌, ◌<◌, ◌≤◌, true, ap, sym, subst, ◌∙◌, arith, List, [], ◌∷◌, ◌++◌, length, length-append, take, drop, take-append-drop, Some, Option, All, Contains}
use Rattle.std.specs.Prelude.{⊤}
use Rattle.std.proofs.lemmas.List.Elements.{All-nil, All-cons, All-head, All-tail, All-weaker, All-contains_itself, Contains-append_left, Contains-push, All-contains}
use Rattle.sgf_reader.specs.declared.collection.Pair.{Pair}
use Rattle.sgf_reader.specs.declared.fault.FaultKind.{FaultKind}
use Rattle.sgf_reader.specs.declared.fault.FaultKind.TheVariants as kind
use Rattle.sgf_reader.specs.Limits.{most_bytes, most_games, most_nodes, most_open}
use Rattle.sgf_reader.specs.Grammar.{SpelledGame, SpelledNode, SpellsGames}
pub use Rattle.sgf_reader.specs.Faults.{AreWithinLimits}
use Rattle.sgf_reader.specs.Faults.{HasRead, HasFault, IsLive}
use Rattle.sgf_reader.specs.Scan.{Scan, Place, Outside, Before, Within, Inside, Phase, Opened, InName, InValue, Escaped, AfterName, AfterValue, with_pair, closed, begun, scan, at_start, IsOutside}
use Rattle.sgf_reader.proofs.Scans.{Leads-parts, Leads-head}
use Rattle.sgf_reader.proofs.Steps.{EndsNode, in_node, after_value, EndsTree, after_node, after_tree}
use Rattle.sgf_reader.proofs.Ways.{inside, Way, step-way}
use Rattle.sgf_reader.proofs.SpelledNodes.{paired, with_pair-length}
use Rattle.sgf_reader.proofs.SpelledScans.{spelled-scans}
use Rattle.sgf_reader.proofs.Reached.{Moves, BeginsNode, Change, changes, HasOpen, way-open}
use Rattle.sgf_reader.proofs.ReadBounds.{GameFits, NodeFits, read-bounds}
use Rattle.std.proofs.lemmas.Bool.{cases_lt}
use Rattle.sgf_reader.proofs.LimitLaws.{ScansTooDeep, ScansNodeTooMany, ScansGameTooMany, too_deep-at, node_too_many-at, game_too_many-at}

-- ---- each place on the way to games within the limits

abbrev IsShallow : SpelledNode → Type 0
IsShallow node = node.depth ≤ most_open

record GameWithin (game : SpelledGame) : Type 0 where
  few : length game.nodes ≤ most_nodes
  shallow : All IsShallow game.nodes

record InsideWithin (games : List SpelledGame) (s : Inside) : Type 0 where
  fewer : length games < most_games
  few : length s.nodes ≤ most_nodes
  shallow : All IsShallow s.nodes
  brackets : (from : ℕ) → s.phase ≡ Opened from → length s.parents ≤ most_open

abbrev PlaceWithin : List SpelledGame → Place → Type 0
PlaceWithin games Outside = ⊤
PlaceWithin games (Before from) = ⊤
PlaceWithin games (Within s) = InsideWithin games s

record ScanWithin (s : Scan) : Type 0 where
  few : length s.games ≤ most_games
  each : All GameWithin s.games
  here : PlaceWithin s.games s.place

-- ---- lists with one element less

All-front : {X : Type 0} (P : X → Type 0) (xs : List X) (x : X) → All P (xs ++ x ∷ []) → All P xs
All-front P xs x all = All-weaker (λ y. Contains xs y) P (λ y m. All-contains P (xs ++ x ∷ []) y all (Contains-append_left xs (x ∷ []) y m)) xs (All-contains_itself xs)

All-last : {X : Type 0} (P : X → Type 0) (xs : List X) (x : X) → All P (xs ++ x ∷ []) → P x
All-last P xs x all = All-contains P (xs ++ x ∷ []) x all (Contains-push xs x)

shallow-pair : (nodes : List SpelledNode) (pair : Pair) → All IsShallow (with_pair nodes pair) → All IsShallow nodes
shallow-pair [] pair h = h
shallow-pair (x ∷ []) pair h = All-cons IsShallow x [] (All-head IsShallow (paired x (x.pairs ++ pair ∷ [])) [] h) (All-nil IsShallow)
shallow-pair (x ∷ y ∷ nodes) pair h = All-cons IsShallow x (y ∷ nodes) (All-head IsShallow x (with_pair (y ∷ nodes) pair) h) (shallow-pair (y ∷ nodes) pair (All-tail IsShallow x (with_pair (y ∷ nodes) pair) h))

-- ---- one byte back

not-opened-node : (phase : Phase) → EndsNode phase → (from : ℕ) → phase ≡ Opened from → ⊥
not-opened-node phase in_node from e = cc
not-opened-node phase after_value from e = cc

not-opened-tree : (phase : Phase) → EndsTree phase → (from : ℕ) → phase ≡ Opened from → ⊥
not-opened-tree phase (after_node n) from e = not-opened-node phase n from e
not-opened-tree phase after_tree from e = cc

moved-opened : (s : Inside) (count : ℕ) (phase : Phase) → Moves s count phase → (from : ℕ) → s.phase ≡ Opened from → phase ≡ Opened from
moved-opened s count phase Moves.stays from f = f
moved-opened s count phase (Moves.to_name e) from f = absurd (not-opened-node s.phase e from f)
moved-opened s count phase (Moves.on_name {from = k} {old = old} e) from f = let both : InName k old ≡ Opened from = sym e ∙ f in absurd (cc)
moved-opened s count phase (Moves.named {from = k} e) from f = let both : InName k true ≡ Opened from = sym e ∙ f in absurd (cc)
moved-opened s count phase (Moves.named_value {from = k} e) from f = let both : InName k true ≡ Opened from = sym e ∙ f in absurd (cc)
moved-opened s count phase (Moves.value {name = name} (inl e)) from f = let both : AfterName name ≡ Opened from = sym e ∙ f in absurd (cc)
moved-opened s count phase (Moves.value {name = name} (inr e)) from f = let both : AfterValue name ≡ Opened from = sym e ∙ f in absurd (cc)
moved-opened s count phase (Moves.escape {name = name} {from = k} e) from f = let both : InValue name k ≡ Opened from = sym e ∙ f in absurd (cc)
moved-opened s count phase (Moves.unescape {name = name} {from = k} e) from f = let both : Escaped name k ≡ Opened from = sym e ∙ f in absurd (cc)

node-brackets : (s : Inside) (opened : Option ℕ) (phase : Phase) → s.phase ≡ phase → BeginsNode phase opened → length s.parents ≤ most_open → (from : ℕ) → s.phase ≡ Opened from → length s.parents ≤ most_open
node-brackets s opened phase e n h from f = h

closed-within : (games : List SpelledGame) (s : Inside) (parents : List (Option ℕ)) → 1 ≤ length parents → EndsTree s.phase → ScanWithin (closed games s parents) → ScanWithin (inside games s)
closed-within games s [] h e w = absurd (omega arith)
closed-within games s (p ∷ []) h e w =
    let game : SpelledGame = record { at = s.at; nodes = s.nodes } in
    let last = All-last GameWithin games game w.each in
    record {
      few = omega (arith, w.few, length-append games (game ∷ []));
      each = All-front GameWithin games game w.each;
      here = record { fewer = omega (arith, w.few, length-append games (game ∷ [])); few = last.few; shallow = last.shallow; brackets = λ from f. absurd (not-opened-tree s.phase e from f) };
    }
closed-within games s (p ∷ q ∷ parents) h e w = record { few = w.few; each = w.each; here = record { fewer = w.here.fewer; few = w.here.few; shallow = w.here.shallow; brackets = λ from f. absurd (not-opened-tree s.phase e from f) } }

change-within : (games : List SpelledGame) (s : Inside) (count : ℕ) (t : Scan) → 1 ≤ length s.parents → Change games s count t → ScanWithin t → ScanWithin (inside games s)
change-within games s count t h (Change.moves {phase = phase} m) w = record { few = w.few; each = w.each; here = record { fewer = w.here.fewer; few = w.here.few; shallow = w.here.shallow; brackets = λ from f. w.here.brackets from (moved-opened s count phase m from f) } }
change-within games s count t h (Change.gains {name = name} {from = k} e) w =
    let pair : Pair = record { name = name; value = record { from = k; to = count } } in
    record { few = w.few; each = w.each; here = record { fewer = w.here.fewer; few = omega (arith, w.here.few, with_pair-length s.nodes pair); shallow = shallow-pair s.nodes pair w.here.shallow; brackets = λ from f. (let both : InValue name k ≡ Opened from = sym e ∙ f in absurd (cc)) } }
change-within games s count t h (Change.begins {opened = opened} n) w =
    let node : SpelledNode = record { opened = opened; at = count; depth = length s.parents; parent = s.last; pairs = [] } in
    record { few = w.few; each = w.each; here = record { fewer = w.here.fewer; few = omega (arith, w.here.few, length-append s.nodes (node ∷ [])); shallow = All-front IsShallow s.nodes node w.here.shallow; brackets = λ from f. All-last IsShallow s.nodes node w.here.shallow } }
change-within games s count t h (Change.opens e) w = record { few = w.few; each = w.each; here = record { fewer = w.here.fewer; few = w.here.few; shallow = w.here.shallow; brackets = λ from f. absurd (not-opened-tree s.phase e from f) } }
change-within games s count t h (Change.closes e) w = closed-within games s s.parents h e w

way-within : (games : List SpelledGame) (count b : ℕ) (place : Place) (t : Scan) → HasOpen place → Way games count b place t → ScanWithin t → ScanWithin (record { games = games; place = place })
way-within games count b place t h (Way.out_open e) w = record { few = w.few; each = w.each; here = tt }
way-within games count b place t h (Way.out_skip e) w = record { few = w.few; each = w.each; here = tt }
way-within games count b place t h (Way.before_white e) w = record { few = w.few; each = w.each; here = tt }
way-within games count b place t h (Way.before_node {from = from} e) w = record { few = w.few; each = w.each; here = tt }
way-within games count b place t h (Way.before_open e) w = record { few = w.few; each = w.each; here = tt }
way-within games count b place t h (Way.before_skip e f k) w = record { few = w.few; each = w.each; here = tt }
way-within games count b place t h (Way.way_in {s = s} c) w = change-within games s count t h (changes games s count b t c) w

-- a scan that ends within the limits is within them everywhere
scan-within : (text : List ℕ) (at : ℕ) (s t : Scan) → scan s at text ≡ Some t → HasOpen s.place → ScanWithin t → ScanWithin s
scan-within [] at s t e h w = let same : s ≡ t = cc in subst ScanWithin (sym same) w
scan-within (b ∷ text) at s t e h w =
    let head = Leads-head s t at b text e in
    let way = step-way s.games s.place at b head.0 head.1 in
    way-within s.games at b s.place head.0 h way (scan-within text (at + 1) head.0 t head.2 (way-open s.games at b s.place head.0 h way) w)

scan-open : (text : List ℕ) (at : ℕ) (s t : Scan) → scan s at text ≡ Some t → HasOpen s.place → HasOpen t.place
scan-open [] at s t e h = let same : s ≡ t = cc in subst (λ (u : Scan). HasOpen u.place) same h
scan-open (b ∷ text) at s t e h =
    let head = Leads-head s t at b text e in
    scan-open text (at + 1) head.0 t head.2 (way-open s.games at b s.place head.0 h (step-way s.games s.place at b head.0 head.1))

-- ---- the whole text

out-within : (games : List SpelledGame) (place : Place) → IsOutside place → AreWithinLimits games → ScanWithin (record { games = games; place = place })
out-within games place o l = record { few = l.few; each = All-weaker (λ game. Contains games game) GameWithin (λ game m. record { few = l.nodes game m; shallow = All-weaker (λ node. Contains game.nodes node) IsShallow (λ node n. l.depths game m node n) game.nodes (All-contains_itself game.nodes) }) games (All-contains_itself games); here = nowhere place o } where
  nowhere : (place : Place) → IsOutside place → PlaceWithin games place
  nowhere place IsOutside.outside = tt
  nowhere place IsOutside.before = tt

module _ (text : List ℕ) (games : List SpelledGame) (spells : SpellsGames games text) (limits : AreWithinLimits games) where
  -- the scan of its first bytes
  front-within : (count : ℕ) (s : Scan) → scan at_start 0 (take count text) ≡ Some s → ScanWithin s
  front-within count s e =
      let scanned = spelled-scans text games spells.0 in
      let last : Scan = record { games = games; place = scanned.0 } in
      let whole : scan at_start 0 (take count text ++ drop count text) ≡ Some last = ap (λ (ts : List ℕ). scan at_start 0 ts) (take-append-drop count text) ∙ scanned.2 in
      let parts = Leads-parts at_start last 0 (take count text) (drop count text) whole in
      let same : s ≡ parts.0 = (let both : Some s ≡ Some parts.0 = sym e ∙ parts.1 in cc) in
      let open_there : HasOpen parts.0.place = scan-open (take count text) 0 at_start parts.0 parts.1 tt in
      subst ScanWithin (sym same) (scan-within (drop count text) (0 + length (take count text)) parts.0 last parts.2 open_there (out-within games scanned.0 scanned.1 limits))

  not-deep : (at : ℕ) → ¬ ScansTooDeep text at
  not-deep at h = let w = front-within (at + 1) (inside h.games h.inside) h.scans in absurd (omega (arith, w.here.brackets at h.phase, h.past))

  not-nodes : (at : ℕ) → ¬ ScansNodeTooMany text at
  not-nodes at h = let w = front-within (at + 1) (inside h.games h.inside) h.scans in absurd (omega (arith, w.here.few, ap length h.nodes, length-append h.before (h.node ∷ []), h.past))

  not-games : (at : ℕ) → ¬ ScansGameTooMany text at
  not-games at h = let w = front-within (h.root + 1) (inside h.games (begun at h.root)) h.scans in absurd (omega (arith, w.here.fewer, h.past))

  front-live : (count : ℕ) → IsLive (take count text)
  front-live count = (drop count text, games, subst (λ (ts : List ℕ). SpellsGames games ts) (sym (take-append-drop count text)) spells)

  not-fault : length text ≤ most_bytes → (of : FaultKind) (at : ℕ) → ¬ HasFault text of at
  not-fault short of at (HasFault.no_game live none trees) = none games spells
  not-fault short of at (HasFault.ended live none trees) = none games spells
  not-fault short of at (HasFault.unexpected l live dead) = dead (front-live (at + 1))
  not-fault short of at (HasFault.too_long l) = absurd (omega arith)
  not-fault short of at (HasFault.too_deep h) = not-deep at ((too_deep-at text at).0 h)
  not-fault short of at (HasFault.too_many_nodes h) = not-nodes at ((node_too_many-at text at).0 h)
  not-fault short of at (HasFault.too_many_games h) = not-games at ((game_too_many-at text at).0 h)

-- a spelled text within the limits is read
pub within_limits-no_fault : (games : List SpelledGame) (text : List ℕ) → SpellsGames games text → length text ≤ most_bytes → AreWithinLimits games → HasRead text games
within_limits-no_fault games text spells short limits = record { spells = spells; no_fault = not-fault text games spells limits short }

-- a text that is read is within the limits
pub read-within_limits : (games : List SpelledGame) (text : List ℕ) → HasRead text games → (length text ≤ most_bytes) × AreWithinLimits games
read-within_limits games text h =
    let fit = read-bounds text games h in (
      elim (cases_lt most_bytes (length text)) [
        | inl l ↦ absurd (h.no_fault kind.TooLong most_bytes (HasFault.too_long l))
        | inr l ↦ l
      ],
      record {
        few = fit.few;
        nodes = λ game m. (All-contains (GameFits (length text)) games game fit.each m).few;
        depths = λ game m node n. (All-contains (NodeFits (length text)) game.nodes node (All-contains (GameFits (length text)) games game fit.each m).nodes n).0;
      },
    )
