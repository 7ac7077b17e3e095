-- The faults of the limits, by the scan of the first bytes.
use Rattle.std.proofs.Common.{◌≡◌, ◌↔◌, ℕ, ◌+◌, ◌<◌, ◌≤◌, List, [], ◌∷◌, ◌++◌, length, take, get_or, map, ap, sym, subst, refl, ◌∙◌, arith, inl, inr, Contains, length-append, length-take-le, take-take, Some, None}
use Rattle.std.proofs.lemmas.List.{take-append-le, get_or_at, get_or-map, length-map}
use Rattle.std.proofs.lemmas.List.Elements.{Contains-push}
use Rattle.sgf_reader.specs.Limits.{most_games, most_nodes, most_open}
use Rattle.sgf_reader.specs.Grammar.{SpelledGame, SpelledNode, SpellsGames}
use Rattle.sgf_reader.specs.Faults.{IsTooDeep, IsNodeTooMany, IsGameTooMany, GoesOnAs, StandsAt}
use Rattle.sgf_reader.specs.Scan.{Scan, Within, Inside, Phase, Opened, InNode, scan, at_start, begun}
use Rattle.sgf_reader.proofs.Ways.{inside}
use Rattle.sgf_reader.proofs.Reached.{Reached, reached-whole}
use Rattle.sgf_reader.proofs.SpelledScans.{spelled-scans}
use Rattle.sgf_reader.proofs.ScanEnds.{bare, CompletesNodes, CompletesGame, scan-ends}
use Rattle.sgf_reader.proofs.SpellsOne.{spells-completed}
use Rattle.sgf_reader.proofs.Traces.{TracedNode, TracedGame, TracedGames, games_traced}

-- the scan of the first bytes stands behind the bracket at this offset, the first past the limit of open ones
pub record ScansTooDeep (text : List ℕ) (at : ℕ) : Type 0 where
  pub there : at < length text
  pub games : List SpelledGame
  pub inside : Inside
  pub scans : scan at_start 0 (take (at + 1) text) ≡ Some (record { games = games; place = Within inside })
  pub phase : inside.phase ≡ Opened at
  pub past : length inside.parents ≡ most_open + 1

-- the scan of the first bytes stands behind the `;` at this offset, that of a game's first node past the limit
pub record ScansNodeTooMany (text : List ℕ) (at : ℕ) : Type 0 where
  pub there : at < length text
  pub games : List SpelledGame
  pub inside : Inside
  pub scans : scan at_start 0 (take (at + 1) text) ≡ Some (record { games = games; place = Within inside })
  pub phase : inside.phase ≡ InNode
  pub before : List SpelledNode
  pub node : SpelledNode
  pub nodes : inside.nodes ≡ before ++ node ∷ []
  pub past : length before ≡ most_nodes
  pub here : node.at ≡ at
  pub no_pair : node.pairs ≡ []

-- the scan of the first bytes stands behind the `;` of the root of the first game past the limit, whose bracket is at this offset
pub record ScansGameTooMany (text : List ℕ) (at : ℕ) : Type 0 where
  pub root : ℕ
  pub there : root < length text
  pub games : List SpelledGame
  pub scans : scan at_start 0 (take (root + 1) text) ≡ Some (record { games = games; place = Within (begun at root) })
  pub past : length games ≡ most_games

-- the first bytes of a text and a rest: their scans
front_reached : (text rest : List ℕ) (count k : ℕ) (s : Scan) → count ≤ length text → k ≤ count → Reached (take count text ++ rest) k s → scan at_start 0 (take k text) ≡ Some s
front_reached text rest count k s h l r =
    let fits : k ≤ length (take count text) = omega (arith, length-take-le count text h) in
    let same : take k (take count text ++ rest) ≡ take k text = take-append-le k (take count text) rest fits ∙ take-take k count text l in
    ap (λ (ts : List ℕ). scan at_start 0 ts) (sym same) ∙ r.scans

-- the games of a spelled text are those that its scan traces
spelled_traced : (text : List ℕ) (games : List SpelledGame) → SpellsGames games text → TracedGames text games
spelled_traced text games h =
    let scanned = spelled-scans text games h.0 in
    games_traced text (length text) (record { games = games; place = scanned.0 }) (omega arith) (reached-whole text (record { games = games; place = scanned.0 }) scanned.2)

module _ (text : List ℕ) (games : List SpelledGame) (k : ℕ) (game : SpelledGame) where
  game_traced : TracedGames text games → k < length games → get_or games k game ≡ game → TracedGame text k game
  game_traced all h e = subst (TracedGame text k) e (all k game h)

  node_traced : TracedGame text k game → (m : ℕ) (node : SpelledNode) → m < length game.nodes → get_or game.nodes m node ≡ node → TracedNode text m (bare node)
  node_traced t m node h e =
      let bared : get_or (map bare game.nodes) m (bare node) ≡ bare node = get_or-map bare game.nodes m node (bare node) h ∙ ap bare e in
      subst (TracedNode text m) bared (t.nodes_were m (bare node) (omega (arith, length-map game.nodes bare)))

too_deep_scans : (text : List ℕ) (at : ℕ) → IsTooDeep text at → ScansTooDeep text at
too_deep_scans text at h =
    let whole : List ℕ = take (at + 1) text ++ h.goes_on.1.0 in
    let all = spelled_traced whole h.games h.goes_on.1.1 in
    let game = game_traced whole h.games h.among_games.0 h.game all h.among_games.1 h.among_games.2 in
    let node = node_traced whole h.games h.among_games.0 h.game game h.among_nodes.0 h.node h.among_nodes.1 h.among_nodes.2 in
    elim (node.opened_was at h.opened) [
      | inl root ↦ let deep : h.node.depth ≡ 1025 = h.past in absurd (omega (arith, root, deep))
      | inr was ↦ record {
        there = omega (arith, h.goes_on.0);
        games = was.games;
        inside = was.within;
        scans = front_reached text h.goes_on.1.0 (at + 1) (at + 1) (inside was.games was.within) h.goes_on.0 (omega arith) was.reached;
        phase = was.phase;
        past = was.depth_is ∙ h.past;
      }
    ]

-- what the first bytes of a text spell when they are completed
record Completes (text : List ℕ) (count : ℕ) (s : Scan) : Type 0 where
  game : SpelledGame
  goes_on : GoesOnAs text count (s.games ++ game ∷ [])
  at : ℕ
  completes : CompletesGame s.place at game

completes_front : (text : List ℕ) (count : ℕ) (s : Scan) → count ≤ length text → scan at_start 0 (take count text) ≡ Some s → Completes text count s
completes_front text count s h e =
    let c = scan-ends (take count text) s e in
    let spelled = spells-completed (take count text) s e c in
    record { game = c.game; goes_on = (h, (c.rest, spelled)); at = length (take count text); completes = c.completes }

scans_too_deep : (text : List ℕ) (at : ℕ) → ScansTooDeep text at → IsTooDeep text at
scans_too_deep text at h =
    let c = completes_front text (at + 1) (inside h.games h.inside) (omega (arith, h.there)) h.scans in
    let node : SpelledNode = record { opened = Some at; at = c.at; depth = length h.inside.parents; parent = h.inside.last; pairs = [] } in
    let nodes : CompletesNodes h.inside (Opened at) c.at c.game.nodes = subst (λ (ph : Phase). CompletesNodes h.inside ph c.at c.game.nodes) h.phase c.completes.1 in
    record {
      games = h.games ++ c.game ∷ [];
      game = c.game;
      node = node;
      goes_on = c.goes_on;
      among_games = Contains-push h.games c.game;
      among_nodes = subst (λ (ns : List SpelledNode). Contains ns node) (sym nodes) (Contains-push h.inside.nodes node);
      opened = refl;
      past = h.past;
    }

-- a bracket is the first past the limit of open ones where the scan behind it has so many open
pub too_deep-at : (text : List ℕ) (at : ℕ) → IsTooDeep text at ↔ ScansTooDeep text at
too_deep-at text at = (too_deep_scans text at, scans_too_deep text at)

stands : {X : Type 0} (xs : List X) (n : ℕ) (x : X) → StandsAt xs n x → (n < length xs) × (get_or xs n x ≡ x)
stands {X = X} xs n x s =
    let long : length xs ≡ length s.0 + length (x ∷ s.1) = ap length s.2 ∙ length-append s.0 (x ∷ s.1) in
    (omega (arith, long, s.3), ap (λ (ys : List X). get_or ys n x) s.2 ∙ get_or_at s.0 x s.1 x n s.3)

node_too_many_scans : (text : List ℕ) (at : ℕ) → IsNodeTooMany text at → ScansNodeTooMany text at
node_too_many_scans text at h =
    let whole : List ℕ = take (at + 1) text ++ h.goes_on.1.0 in
    let all = spelled_traced whole h.games h.goes_on.1.1 in
    let game = game_traced whole h.games h.among_games.0 h.game all h.among_games.1 h.among_games.2 in
    let place = stands h.game.nodes most_nodes h.node h.past in
    let node = node_traced whole h.games h.among_games.0 h.game game most_nodes h.node place.0 place.1 in
    let was = node.node_was in
    record {
      there = omega (arith, h.goes_on.0);
      games = was.games;
      inside = was.within;
      scans = front_reached text h.goes_on.1.0 (at + 1) (at + 1) (inside was.games was.within) h.goes_on.0 (omega arith) (subst (λ (k : ℕ). Reached whole (k + 1) (inside was.games was.within)) h.here was.reached);
      phase = was.phase;
      before = was.before;
      node = bare h.node;
      nodes = was.nodes;
      past = was.counted;
      here = h.here;
      no_pair = refl;
    }

scans_node_too_many : (text : List ℕ) (at : ℕ) → ScansNodeTooMany text at → IsNodeTooMany text at
scans_node_too_many text at h =
    let c = completes_front text (at + 1) (inside h.games h.inside) (omega (arith, h.there)) h.scans in
    let nodes : CompletesNodes h.inside InNode c.at c.game.nodes = subst (λ (ph : Phase). CompletesNodes h.inside ph c.at c.game.nodes) h.phase c.completes.1 in
    record {
      games = h.games ++ c.game ∷ [];
      game = c.game;
      node = h.node;
      goes_on = c.goes_on;
      among_games = Contains-push h.games c.game;
      past = (h.before, [], nodes ∙ h.nodes, h.past);
      here = h.here;
    }

-- a `;` is that of a game's first node past the limit where the scan behind it has so many nodes
pub node_too_many-at : (text : List ℕ) (at : ℕ) → IsNodeTooMany text at ↔ ScansNodeTooMany text at
node_too_many-at text at = (node_too_many_scans text at, scans_node_too_many text at)

same_root : (nodes others more : List SpelledNode) (root first : SpelledNode) → map bare nodes ≡ first ∷ others → (front : List SpelledNode) → nodes ≡ front ++ root ∷ more → length front ≡ 0 → first.at ≡ root.at
same_root nodes others more root first e [] f h =
    let both : first ∷ others ≡ bare root ∷ map bare more = sym e ∙ ap (λ (ns : List SpelledNode). map bare ns) f in
    let same : first ≡ bare root = cc in
    ap (λ (n : SpelledNode). n.at) same
same_root nodes others more root first e (x ∷ front) f h = absurd (omega arith)

game_too_many_scans : (text : List ℕ) (at : ℕ) → IsGameTooMany text at → ScansGameTooMany text at
game_too_many_scans text at h =
    let whole : List ℕ = take (h.root.at + 1) text ++ h.goes_on.1.0 in
    let all = spelled_traced whole h.games h.goes_on.1.1 in
    let place = stands h.games most_games h.game h.past in
    let game = game_traced whole h.games most_games h.game all place.0 place.1 in
    let was = game.begun_was in
    let root : was.root.at ≡ h.root.at = same_root h.game.nodes was.others h.first.1 h.root was.root was.is h.first.0 h.first.2 h.first.3 in
    let begins : Reached whole (h.root.at + 1) (inside was.games (begun at h.root.at)) = subst (λ (k : ℕ). Reached whole (h.root.at + 1) (inside was.games (begun k h.root.at))) h.here (subst (λ (k : ℕ). Reached whole (k + 1) (inside was.games (begun h.game.at k))) root was.reached) in
    record {
      root = h.root.at;
      there = omega (arith, h.goes_on.0);
      games = was.games;
      scans = front_reached text h.goes_on.1.0 (h.root.at + 1) (h.root.at + 1) (inside was.games (begun at h.root.at)) h.goes_on.0 (omega arith) begins;
      past = was.counted;
    }

scans_game_too_many : (text : List ℕ) (at : ℕ) → ScansGameTooMany text at → IsGameTooMany text at
scans_game_too_many text at h =
    let c = completes_front text (h.root + 1) (inside h.games (begun at h.root)) (omega (arith, h.there)) h.scans in
    let root : SpelledNode = record { opened = Some at; at = h.root; depth = 1; parent = None; pairs = [] } in
    record {
      games = h.games ++ c.game ∷ [];
      game = c.game;
      root = root;
      goes_on = c.goes_on;
      past = (h.games, [], refl, h.past);
      first = ([], [], c.completes.1, refl);
      here = c.completes.0;
    }

-- a bracket is that of the first game past the limit where the scan behind its root's `;` has so many games before
pub game_too_many-at : (text : List ℕ) (at : ℕ) → IsGameTooMany text at ↔ ScansGameTooMany text at
game_too_many-at text at = (game_too_many_scans text at, scans_game_too_many text at)
