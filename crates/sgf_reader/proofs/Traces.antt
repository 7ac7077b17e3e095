-- Where in the scan of a text each bracket, node and game began.
use Rattle.std.proofs.Common.{◌≡◌, ◌⊎◌, inl, inr, ℕ, ◌+◌, ◌<◌, ◌≤◌, ap, sym, subst, refl, ◌∙◌, arith, List, [], ◌∷◌, ◌++◌, length, get_or, map, Some, None, Option, length-append}
use Rattle.std.specs.Prelude.{⊤}
use Rattle.std.proofs.lemmas.Bool.{cases_lt}
use Rattle.std.proofs.lemmas.List.{map_push, length-map, get_or_append_left, get_or_push}
use Rattle.sgf_reader.specs.declared.collection.Pair.{Pair}
use Rattle.sgf_reader.specs.Grammar.{SpelledGame, SpelledNode}
use Rattle.sgf_reader.specs.Scan.{Scan, Place, Outside, Before, Within, Inside, Phase, Opened, InNode, with_node, with_bracket, closed, begun}
use Rattle.sgf_reader.proofs.Ways.{inside, Way}
use Rattle.sgf_reader.proofs.ScanEnds.{bare, bare-pair}
use Rattle.sgf_reader.proofs.Reached.{Reached, keeps, Moves, BeginsNode, Change, changes}

-- the scan behind the node's `;`: it is the last of the nodes there, of this number
pub record WasNode (text : List ℕ) (number : ℕ) (node : SpelledNode) : Type 0 where
  pub games : List SpelledGame
  pub within : Inside
  pub reached : Reached text (node.at + 1) (inside games within)
  pub phase : within.phase ≡ InNode
  pub before : List SpelledNode
  pub nodes : within.nodes ≡ before ++ bare node ∷ []
  pub counted : length before ≡ number

-- the scan behind a bracket: so many are open
pub record WasOpened (text : List ℕ) (from depth : ℕ) : Type 0 where
  pub games : List SpelledGame
  pub within : Inside
  pub reached : Reached text (from + 1) (inside games within)
  pub phase : within.phase ≡ Opened from
  pub depth_is : length within.parents ≡ depth

-- the scan behind the `;` of the game's root: so many games are before it
pub record WasBegun (text : List ℕ) (number at : ℕ) (nodes : List SpelledNode) : Type 0 where
  pub root : SpelledNode
  pub others : List SpelledNode
  pub is : nodes ≡ root ∷ others
  pub games : List SpelledGame
  pub reached : Reached text (root.at + 1) (inside games (begun at root.at))
  pub counted : length games ≡ number

pub record TracedNode (text : List ℕ) (number : ℕ) (node : SpelledNode) : Type 0 where
  pub node_was : WasNode text number node
  pub opened_was : (from : ℕ) → node.opened ≡ Some from → (node.depth ≡ 1) ⊎ WasOpened text from node.depth

-- each of these nodes
abbrev pub TracedNodes : List ℕ → List SpelledNode → Type 0
TracedNodes text nodes = (k : ℕ) (d : SpelledNode) → k < length nodes → TracedNode text k (get_or nodes k d)

pub record TracedGame (text : List ℕ) (number : ℕ) (game : SpelledGame) : Type 0 where
  pub begun_was : WasBegun text number game.at (map bare game.nodes)
  pub nodes_were : TracedNodes text (map bare game.nodes)

-- each of these games
abbrev pub TracedGames : List ℕ → List SpelledGame → Type 0
TracedGames text games = (k : ℕ) (d : SpelledGame) → k < length games → TracedGame text k (get_or games k d)

record TracedIn (text : List ℕ) (games : List SpelledGame) (s : Inside) : Type 0 where
  begun_was : WasBegun text (length games) s.at (map bare s.nodes)
  nodes_were : TracedNodes text (map bare s.nodes)
  opened_was : (from : ℕ) → s.phase ≡ Opened from → WasOpened text from (length s.parents)

abbrev TracedPlace : List ℕ → List SpelledGame → Place → Type 0
TracedPlace text games Outside = ⊤
TracedPlace text games (Before from) = ⊤
TracedPlace text games (Within s) = TracedIn text games s

record Traced (text : List ℕ) (s : Scan) : Type 0 where
  before : TracedGames text s.games
  here : TracedPlace text s.games s.place

-- one element more at the end
push_each : {X : Type 0} (P : ℕ → X → Type 0) (xs : List X) (y : X) → ((k : ℕ) (d : X) → k < length xs → P k (get_or xs k d)) → P (length xs) y → (k : ℕ) (d : X) → k < length (xs ++ y ∷ []) → P k (get_or (xs ++ y ∷ []) k d)
push_each P xs y each last k d h = elim (cases_lt k (length xs)) [
  | inl l ↦ subst (P k) (sym (get_or_append_left xs (y ∷ []) d k l)) (each k d l)
  | inr l ↦
      let here : length xs ≡ k = omega (arith, length-append xs (y ∷ [])) in
      subst (P k) (sym (get_or_push xs y d k here)) (subst (λ (j : ℕ). P j y) here last)
]

module _ (text : List ℕ) where
  push_node : (nodes : List SpelledNode) (node : SpelledNode) → TracedNodes text (map bare nodes) → TracedNode text (length nodes) (bare node) → TracedNodes text (map bare (nodes ++ node ∷ []))
  push_node nodes node each last = subst (TracedNodes text) (sym (map_push bare nodes node)) (push_each (TracedNode text) (map bare nodes) (bare node) each (subst (λ (n : ℕ). TracedNode text n (bare node)) (sym (length-map nodes bare)) last))

  push_begun : (number at : ℕ) (nodes : List SpelledNode) (node : SpelledNode) → WasBegun text number at (map bare nodes) → WasBegun text number at (map bare (nodes ++ node ∷ []))
  push_begun number at nodes node w = record {
    root = w.root;
    others = w.others ++ bare node ∷ [];
    is = map_push bare nodes node ∙ ap (λ (ns : List SpelledNode). ns ++ bare node ∷ []) w.is;
    games = w.games;
    reached = w.reached;
    counted = w.counted;
  }

  closed_traced : (games : List SpelledGame) (s : Inside) (parents : List (Option ℕ)) → TracedGames text games → TracedIn text games s → Traced text (closed games s parents)
  closed_traced games s [] g t = record { before = g; here = tt }
  closed_traced games s (p ∷ []) g t = record { before = push_each (TracedGame text) games (record { at = s.at; nodes = s.nodes }) g (record { begun_was = t.begun_was; nodes_were = t.nodes_were }); here = tt }
  closed_traced games s (p ∷ q ∷ parents) g t = record { before = g; here = record { begun_was = t.begun_was; nodes_were = t.nodes_were; opened_was = λ from e. absurd (cc) } }

  begins_traced : (games : List SpelledGame) (s : Inside) (count : ℕ) (opened : Option ℕ) (phase : Phase) → s.phase ≡ phase → BeginsNode phase opened → TracedIn text games s → Reached text (count + 1) (inside games (with_node s opened count)) → TracedNode text (length s.nodes) (record { opened = opened; at = count; depth = length s.parents; parent = s.last; pairs = [] })
  begins_traced games s count opened phase e (BeginsNode.behind_bracket {from = k}) t r = record {
    node_was = record { games = games; within = with_node s (Some k) count; reached = r; phase = refl; before = s.nodes; nodes = refl; counted = refl };
    opened_was = λ from o. let same : k ≡ from = cc in inr (subst (λ (j : ℕ). WasOpened text j (length s.parents)) same (t.opened_was k e));
  }
  begins_traced games s count opened phase e (BeginsNode.behind_node n) t r = record {
    node_was = record { games = games; within = with_node s None count; reached = r; phase = refl; before = s.nodes; nodes = refl; counted = refl };
    opened_was = λ from o. absurd (cc);
  }

  stays_opened : (s : Inside) (count : ℕ) (phase : Phase) → Moves s count phase → (from : ℕ) → phase ≡ Opened from → s.phase ≡ Opened from
  stays_opened s count phase Moves.stays from e = e
  stays_opened s count phase (Moves.to_name n) from e = absurd (cc)
  stays_opened s count phase (Moves.on_name n) from e = absurd (cc)
  stays_opened s count phase (Moves.named n) from e = absurd (cc)
  stays_opened s count phase (Moves.named_value n) from e = absurd (cc)
  stays_opened s count phase (Moves.value n) from e = absurd (cc)
  stays_opened s count phase (Moves.escape n) from e = absurd (cc)
  stays_opened s count phase (Moves.unescape n) from e = absurd (cc)

  change_traced : (games : List SpelledGame) (s : Inside) (count : ℕ) (t : Scan) → Change games s count t → TracedGames text games → TracedIn text games s → Reached text (count + 1) t → Traced text t
  change_traced games s count t (Change.moves {phase = phase} m) g i r = record { before = g; here = record { begun_was = i.begun_was; nodes_were = i.nodes_were; opened_was = λ from e. i.opened_was from (stays_opened s count phase m from e) } }
  change_traced games s count t (Change.gains {name = name} {from = from} e) g i r =
      let pair : Pair = record { name = name; value = record { from = from; to = count } } in
      let same = sym (bare-pair s.nodes pair) in
      record { before = g; here = record { begun_was = subst (WasBegun text (length games) s.at) same i.begun_was; nodes_were = subst (TracedNodes text) same i.nodes_were; opened_was = λ k f. absurd (cc) } }
  change_traced games s count t (Change.begins {opened = opened} n) g i r =
      let node : SpelledNode = record { opened = opened; at = count; depth = length s.parents; parent = s.last; pairs = [] } in
      record { before = g; here = record { begun_was = push_begun (length games) s.at s.nodes node i.begun_was; nodes_were = push_node s.nodes node i.nodes_were (begins_traced games s count opened s.phase refl n i r); opened_was = λ k f. absurd (cc) } }
  change_traced games s count t (Change.opens e) g i r =
      let was : WasOpened text count (length (s.last ∷ s.parents)) = record { games = games; within = with_bracket s count; reached = r; phase = refl; depth_is = refl } in
      record { before = g; here = record { begun_was = i.begun_was; nodes_were = i.nodes_were; opened_was = λ k f. let same : count ≡ k = cc in subst (λ (j : ℕ). WasOpened text j (length (s.last ∷ s.parents))) same was } }
  change_traced games s count t (Change.closes e) g i r = closed_traced games s s.parents g i

  begun_traced : (games : List SpelledGame) (from count : ℕ) → TracedGames text games → Reached text (count + 1) (inside games (begun from count)) → Traced text (inside games (begun from count))
  begun_traced games from count g r =
      let root : SpelledNode = record { opened = Some from; at = count; depth = length {A = Option ℕ} (None ∷ []); parent = None; pairs = [] } in
      let was : TracedNode text 0 root = record { node_was = record { games = games; within = begun from count; reached = r; phase = refl; before = []; nodes = refl; counted = refl }; opened_was = λ k e. inl refl } in
      record { before = g; here = record { begun_was = record { root = root; others = []; is = refl; games = games; reached = r; counted = refl }; nodes_were = push_each (TracedNode text) [] root (λ k d h. absurd (omega arith)) was; opened_was = λ k f. absurd (cc) } }

  way_traced : (games : List SpelledGame) (count b : ℕ) (place : Place) (t : Scan) → Way games count b place t → TracedGames text games → TracedPlace text games place → Reached text (count + 1) t → Traced text t
  way_traced games count b place t (Way.out_open e) g i r = record { before = g; here = tt }
  way_traced games count b place t (Way.out_skip e) g i r = record { before = g; here = tt }
  way_traced games count b place t (Way.before_white e) g i r = record { before = g; here = tt }
  way_traced games count b place t (Way.before_node {from = from} e) g i r = begun_traced games from count g r
  way_traced games count b place t (Way.before_open e) g i r = record { before = g; here = tt }
  way_traced games count b place t (Way.before_skip e f h) g i r = record { before = g; here = tt }
  way_traced games count b place t (Way.way_in {s = s} w) g i r = change_traced games s count t (changes games s count b t w) g i r

  reached_traced : (count : ℕ) (s : Scan) → count ≤ length text → Reached text count s → Traced text s
  reached_traced count s h r =
      keeps text (λ k u. Traced text u) (record { before = λ k d l. absurd (omega arith); here = tt })
      (λ k u t st i. way_traced u.games k st.way.0 u.place t st.way.1 i.before i.here st.new) count s h r

  -- each game that the scan of a text has read
  pub games_traced : (count : ℕ) (s : Scan) → count ≤ length text → Reached text count s → TracedGames text s.games
  games_traced count s h r = (reached_traced count s h r).before
