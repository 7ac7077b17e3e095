-- What the limits bound in a text without a fault.
use Rattle.std.proofs.Common.{◌≡◌, inl, inr, ℕ, ◌+◌, ◌<◌, ◌≤◌, true, subst, refl, arith, List, [], ◌∷◌, ◌++◌, length, length-append, Some, None, Option, All}
use Rattle.std.specs.Prelude.{⊤}
use Rattle.std.proofs.lemmas.Bool.{cases_lt}
use Rattle.std.proofs.lemmas.List.Elements.{All-nil, All-cons, All-head, All-tail, All-push, All-weaker}
use Rattle.sgf_reader.specs.declared.collection.Span.{Span}
use Rattle.sgf_reader.specs.declared.collection.Pair.{Pair}
use Rattle.sgf_reader.specs.declared.fault.FaultKind.TheVariants as kind
use Rattle.sgf_reader.specs.Limits.{most_games, most_nodes, most_open}
use Rattle.sgf_reader.specs.Grammar.{SpelledGame, SpelledNode}
use Rattle.sgf_reader.specs.Faults.{HasRead, HasFault}
use Rattle.sgf_reader.specs.Scan.{Scan, Place, Outside, Before, Within, Inside, Phase, Opened, InNode, InName, AfterName, InValue, Escaped, AfterValue, AfterTree, with_pair, with_node, with_bracket, closed, begun}
use Rattle.sgf_reader.proofs.Ways.{inside, behind_value, Way}
use Rattle.sgf_reader.proofs.SpelledNodes.{paired, with_pair-length}
use Rattle.sgf_reader.proofs.SpelledScans.{spelled-scans}
use Rattle.sgf_reader.proofs.Reached.{Reached, keeps, reached-whole, Moves, Change, changes}
use Rattle.sgf_reader.proofs.LimitLaws.{ScansTooDeep, ScansNodeTooMany, ScansGameTooMany, too_deep-at, node_too_many-at, game_too_many-at}

-- ---- the words

-- the span ends at this offset or before
abbrev pub LiesBelow : ℕ → Span → Type 0
LiesBelow end span = (span.from ≤ span.to) × (span.to ≤ end)

-- the name and the value end there or before
abbrev pub PairFits : ℕ → Pair → Type 0
PairFits end pair = LiesBelow end pair.name × LiesBelow end pair.value

-- a node within the limits, in the text up to this offset
abbrev pub NodeFits : ℕ → SpelledNode → Type 0
NodeFits end node = (node.depth ≤ most_open) × All (PairFits end) node.pairs

-- a game within the limits, in the text up to this offset
pub record GameFits (end : ℕ) (game : SpelledGame) : Type 0 where
  pub some : 1 ≤ length game.nodes
  pub few : length game.nodes ≤ most_nodes
  pub nodes : All (NodeFits end) game.nodes

-- games within the limits, in the text up to this offset
pub record GamesFit (end : ℕ) (games : List SpelledGame) : Type 0 where
  pub few : length games ≤ most_games
  pub each : All (GameFits end) games

-- ---- each place

-- the spans that are begun
abbrev PhaseFits : ℕ → Phase → Type 0
PhaseFits end (Opened from) = ⊤
PhaseFits end InNode = ⊤
PhaseFits end (InName from upper) = from ≤ end
PhaseFits end (AfterName name) = LiesBelow end name
PhaseFits end (InValue name from) = LiesBelow end name × (from ≤ end)
PhaseFits end (Escaped name from) = LiesBelow end name × (from ≤ end)
PhaseFits end (AfterValue name) = LiesBelow end name
PhaseFits end AfterTree = ⊤

record InsideFits (end : ℕ) (games : List SpelledGame) (s : Inside) : Type 0 where
  fewer : length games < most_games
  brackets : length s.parents ≤ most_open
  some : 1 ≤ length s.nodes
  few : length s.nodes ≤ most_nodes
  nodes : All (NodeFits end) s.nodes
  phase : PhaseFits end s.phase

abbrev PlaceFits : ℕ → List SpelledGame → Place → Type 0
PlaceFits end games Outside = ⊤
PlaceFits end games (Before from) = ⊤
PlaceFits end games (Within s) = InsideFits end games s

record ScanFits (end : ℕ) (s : Scan) : Type 0 where
  before : GamesFit end s.games
  here : PlaceFits end s.games s.place

-- ---- one byte more

module _ (end : ℕ) where
  pair-later : (pair : Pair) → PairFits end pair → PairFits (end + 1) pair
  pair-later pair h = ((h.0.0, omega (arith, h.0.1)), (h.1.0, omega (arith, h.1.1)))

  node-later : (node : SpelledNode) → NodeFits end node → NodeFits (end + 1) node
  node-later node h = (h.0, All-weaker (PairFits end) (PairFits (end + 1)) pair-later node.pairs h.1)

  nodes-later : (nodes : List SpelledNode) → All (NodeFits end) nodes → All (NodeFits (end + 1)) nodes
  nodes-later nodes h = All-weaker (NodeFits end) (NodeFits (end + 1)) node-later nodes h

  game-later : (game : SpelledGame) → GameFits end game → GameFits (end + 1) game
  game-later game h = record { some = h.some; few = h.few; nodes = nodes-later game.nodes h.nodes }

  games-later : (games : List SpelledGame) → GamesFit end games → GamesFit (end + 1) games
  games-later games h = record { few = h.few; each = All-weaker (GameFits end) (GameFits (end + 1)) game-later games h.each }

  phase-later : (phase : Phase) → PhaseFits end phase → PhaseFits (end + 1) phase
  phase-later (Opened from) h = tt
  phase-later InNode h = tt
  phase-later (InName from upper) h = omega arith
  phase-later (AfterName name) h = (h.0, omega (arith, h.1))
  phase-later (InValue name from) h = ((h.0.0, omega (arith, h.0.1)), omega (arith, h.1))
  phase-later (Escaped name from) h = ((h.0.0, omega (arith, h.0.1)), omega (arith, h.1))
  phase-later (AfterValue name) h = (h.0, omega (arith, h.1))
  phase-later AfterTree h = tt

  -- the phase after a byte at this offset
  moved-fits : (s : Inside) (phase : Phase) → PhaseFits end s.phase → Moves s end phase → PhaseFits (end + 1) phase
  moved-fits s phase h Moves.stays = phase-later s.phase h
  moved-fits s phase h (Moves.to_name e) = omega arith
  moved-fits s phase h (Moves.on_name {from = from} {old = old} e) = let f : PhaseFits end (InName from old) = subst (PhaseFits end) e h in omega (arith, f)
  moved-fits s phase h (Moves.named {from = from} e) = let f : PhaseFits end (InName from true) = subst (PhaseFits end) e h in (omega (arith, f), omega arith)
  moved-fits s phase h (Moves.named_value {from = from} e) = let f : PhaseFits end (InName from true) = subst (PhaseFits end) e h in ((omega (arith, f), omega arith), omega arith)
  moved-fits s phase h (Moves.value {name = name} (inl e)) = let f : PhaseFits end (AfterName name) = subst (PhaseFits end) e h in ((f.0, omega (arith, f.1)), omega arith)
  moved-fits s phase h (Moves.value {name = name} (inr e)) = let f : PhaseFits end (AfterValue name) = subst (PhaseFits end) e h in ((f.0, omega (arith, f.1)), omega arith)
  moved-fits s phase h (Moves.escape {name = name} {from = from} e) = let f : PhaseFits end (InValue name from) = subst (PhaseFits end) e h in phase-later (InValue name from) f
  moved-fits s phase h (Moves.unescape {name = name} {from = from} e) = let f : PhaseFits end (Escaped name from) = subst (PhaseFits end) e h in phase-later (Escaped name from) f

pair-kept : (P : SpelledNode → Type 0) (pair : Pair) → ((node : SpelledNode) → P node → P (paired node (node.pairs ++ pair ∷ []))) → (nodes : List SpelledNode) → All P nodes → All P (with_pair nodes pair)
pair-kept P pair more [] h = h
pair-kept P pair more (x ∷ []) h = All-cons P (paired x (x.pairs ++ pair ∷ [])) [] (more x (All-head P x [] h)) (All-nil P)
pair-kept P pair more (x ∷ y ∷ nodes) h = All-cons P x (with_pair (y ∷ nodes) pair) (All-head P x (y ∷ nodes) h) (pair-kept P pair more (y ∷ nodes) (All-tail P x (y ∷ nodes) h))

-- no limit is passed
record NoLimit (text : List ℕ) : Type 0 where
  deep : (at : ℕ) → ¬ ScansTooDeep text at
  nodes : (at : ℕ) → ¬ ScansNodeTooMany text at
  games : (at : ℕ) → ¬ ScansGameTooMany text at

module _ (text : List ℕ) (no_limit : NoLimit text) where
  closed-fits : (count : ℕ) (games : List SpelledGame) (s : Inside) (parents : List (Option ℕ)) → length parents ≤ most_open → GamesFit (count + 1) games → InsideFits count games s → ScanFits (count + 1) (closed games s parents)
  closed-fits count games s [] h g i = record { before = g; here = tt }
  closed-fits count games s (p ∷ []) h g i =
      let game : SpelledGame = record { at = s.at; nodes = s.nodes } in
      let fits : GameFits (count + 1) game = record { some = i.some; few = i.few; nodes = nodes-later count s.nodes i.nodes } in
      record { before = record { few = omega (arith, i.fewer, length-append games (game ∷ [])); each = All-push (GameFits (count + 1)) games game g.each fits }; here = tt }
  closed-fits count games s (p ∷ q ∷ parents) h g i = record { before = g; here = record { fewer = i.fewer; brackets = omega arith; some = i.some; few = i.few; nodes = nodes-later count s.nodes i.nodes; phase = tt } }

  begins-fits : (games : List SpelledGame) (s : Inside) (count : ℕ) (opened : Option ℕ) → count < length text → Reached text (count + 1) (inside games (with_node s opened count)) → InsideFits count games s → InsideFits (count + 1) games (with_node s opened count)
  begins-fits games s count opened h r i =
      let node : SpelledNode = record { opened = opened; at = count; depth = length s.parents; parent = s.last; pairs = [] } in
      let fewer : length s.nodes < most_nodes = elim (cases_lt (length s.nodes) most_nodes) [
        | inl l ↦ l
        | inr l ↦ absurd (no_limit.nodes count (record { there = h; games = games; inside = with_node s opened count; scans = r.scans; phase = refl; before = s.nodes; node = node; nodes = refl; past = omega (arith, i.few); here = refl; no_pair = refl }))
      ] in
      record {
        fewer = i.fewer;
        brackets = i.brackets;
        some = omega (arith, length-append s.nodes (node ∷ []));
        few = omega (arith, fewer, length-append s.nodes (node ∷ []));
        nodes = All-push (NodeFits (count + 1)) s.nodes node (nodes-later count s.nodes i.nodes) (i.brackets, All-nil (PairFits (count + 1)));
        phase = tt;
      }

  opens-fits : (games : List SpelledGame) (s : Inside) (count : ℕ) → count < length text → Reached text (count + 1) (inside games (with_bracket s count)) → InsideFits count games s → InsideFits (count + 1) games (with_bracket s count)
  opens-fits games s count h r i =
      let fewer : length s.parents < most_open = elim (cases_lt (length s.parents) most_open) [
        | inl l ↦ l
        | inr l ↦ absurd (no_limit.deep count (record { there = h; games = games; inside = with_bracket s count; scans = r.scans; phase = refl; past = omega (arith, i.brackets) }))
      ] in
      record { fewer = i.fewer; brackets = omega (arith, fewer); some = i.some; few = i.few; nodes = nodes-later count s.nodes i.nodes; phase = tt }

  gains-fits : (games : List SpelledGame) (s : Inside) (count : ℕ) (name : Span) (from : ℕ) → s.phase ≡ InValue name from → InsideFits count games s → InsideFits (count + 1) games (behind_value s name from count)
  gains-fits games s count name from e i =
      let pair : Pair = record { name = name; value = record { from = from; to = count } } in
      let f : PhaseFits count (InValue name from) = subst (PhaseFits count) e i.phase in
      let fits : PairFits (count + 1) pair = ((f.0.0, omega (arith, f.0.1)), (f.1, omega arith)) in
      record {
        fewer = i.fewer;
        brackets = i.brackets;
        some = omega (arith, i.some, with_pair-length s.nodes pair);
        few = omega (arith, i.few, with_pair-length s.nodes pair);
        nodes = pair-kept (NodeFits (count + 1)) pair (λ node h. (h.0, All-push (PairFits (count + 1)) node.pairs pair h.1 fits)) s.nodes (nodes-later count s.nodes i.nodes);
        phase = (f.0.0, omega (arith, f.0.1));
      }

  change-fits : (games : List SpelledGame) (s : Inside) (count : ℕ) (t : Scan) → count < length text → Change games s count t → GamesFit count games → InsideFits count games s → Reached text (count + 1) t → ScanFits (count + 1) t
  change-fits games s count t h (Change.moves {phase = phase} m) g i r = record { before = games-later count games g; here = record { fewer = i.fewer; brackets = i.brackets; some = i.some; few = i.few; nodes = nodes-later count s.nodes i.nodes; phase = moved-fits count s phase i.phase m } }
  change-fits games s count t h (Change.gains {name = name} {from = from} e) g i r = record { before = games-later count games g; here = gains-fits games s count name from e i }
  change-fits games s count t h (Change.begins {opened = opened} n) g i r = record { before = games-later count games g; here = begins-fits games s count opened h r i }
  change-fits games s count t h (Change.opens e) g i r = record { before = games-later count games g; here = opens-fits games s count h r i }
  change-fits games s count t h (Change.closes e) g i r = closed-fits count games s s.parents i.brackets (games-later count games g) i

  begun-fits : (games : List SpelledGame) (from count : ℕ) → count < length text → GamesFit count games → Reached text (count + 1) (inside games (begun from count)) → ScanFits (count + 1) (inside games (begun from count))
  begun-fits games from count h g r =
      let fewer : length games < most_games = elim (cases_lt (length games) most_games) [
        | inl l ↦ l
        | inr l ↦ absurd (no_limit.games from (record { root = count; there = h; games = games; scans = r.scans; past = omega (arith, g.few) }))
      ] in
      let root : SpelledNode = record { opened = Some from; at = count; depth = length {A = Option ℕ} (None ∷ []); parent = None; pairs = [] } in
      record {
        before = games-later count games g;
        here = record { fewer = fewer; brackets = omega arith; some = omega arith; few = omega arith; nodes = All-cons (NodeFits (count + 1)) root [] (omega arith, All-nil (PairFits (count + 1))) (All-nil (NodeFits (count + 1))); phase = tt };
      }

  way-fits : (games : List SpelledGame) (count b : ℕ) (place : Place) (t : Scan) → count < length text → Way games count b place t → GamesFit count games → PlaceFits count games place → Reached text (count + 1) t → ScanFits (count + 1) t
  way-fits games count b place t h (Way.out_open e) g i r = record { before = games-later count games g; here = tt }
  way-fits games count b place t h (Way.out_skip e) g i r = record { before = games-later count games g; here = tt }
  way-fits games count b place t h (Way.before_white e) g i r = record { before = games-later count games g; here = tt }
  way-fits games count b place t h (Way.before_node {from = from} e) g i r = begun-fits games from count h g r
  way-fits games count b place t h (Way.before_open e) g i r = record { before = games-later count games g; here = tt }
  way-fits games count b place t h (Way.before_skip e f k) g i r = record { before = games-later count games g; here = tt }
  way-fits games count b place t h (Way.way_in {s = s} w) g i r = change-fits games s count t h (changes games s count b t w) g i r

  reached-fits : (count : ℕ) (s : Scan) → count ≤ length text → Reached text count s → ScanFits count s
  reached-fits count s h r =
      keeps text (λ k u. ScanFits k u) (record { before = record { few = omega arith; each = All-nil (GameFits 0) }; here = tt })
      (λ k u t st i. way-fits u.games k st.way.0 u.place t st.fits st.way.1 i.before i.here st.new) count s h r

-- a text without a fault passes no limit
no_limit-from : (text : List ℕ) (games : List SpelledGame) → HasRead text games → NoLimit text
no_limit-from text games h = record {
  deep = λ at s. h.no_fault kind.TooDeep at (HasFault.too_deep ((too_deep-at text at).1 s));
  nodes = λ at s. h.no_fault kind.TooManyNodes at (HasFault.too_many_nodes ((node_too_many-at text at).1 s));
  games = λ at s. h.no_fault kind.TooManyGames at (HasFault.too_many_games ((game_too_many-at text at).1 s));
}

-- the games of a text without a fault are within the limits, and their spans within the text
pub read-bounds : (text : List ℕ) (games : List SpelledGame) → HasRead text games → GamesFit (length text) games
read-bounds text games h =
    let scanned = spelled-scans text games h.spells.0 in
    let last : Scan = record { games = games; place = scanned.0 } in
    (reached-fits text (no_limit-from text games h) (length text) last (omega arith) (reached-whole text last scanned.2)).before
