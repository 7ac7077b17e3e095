-- How the nodes of a game that was read hang below each other.
use Rattle.std.proofs.Common.{◌≡◌, inl, inr, ℕ, ◌-◌, ◌≤◌, true, ap, sym, subst, refl, ◌∙◌, arith, List, [], ◌∷◌, ◌++◌, length, map, length-append, Some, None, Option, All, Contains}
use Rattle.std.specs.Prelude.{⊤}
use Rattle.std.proofs.lemmas.List.{map_push, length-map}
use Rattle.std.proofs.lemmas.List.Elements.{All-nil, All-push, All-contains}
use Rattle.sgf_reader.specs.declared.collection.Span.{Span}
use Rattle.sgf_reader.specs.declared.collection.Pair.{Pair}
use Rattle.sgf_reader.specs.Grammar.{SpelledGame, SpelledNode, HasGames}
use Rattle.sgf_reader.specs.Scan.{Scan, Place, Outside, Before, Within, Inside, Phase, Opened, InNode, InName, AfterName, InValue, Escaped, AfterValue, AfterTree, with_pair, with_node, closed}
use Rattle.sgf_reader.proofs.Steps.{EndsNode, in_node, after_value, EndsTree, after_node, after_tree}
use Rattle.sgf_reader.proofs.Ways.{Way}
use Rattle.sgf_reader.proofs.SpelledScans.{spelled-scans}
use Rattle.sgf_reader.proofs.Reached.{Reached, keeps, reached-whole, Moves, BeginsNode, Change, changes}
use Rattle.sgf_reader.proofs.NodeParents.{AreHung, Hanging, hanging-push, hanging-extend, hanging-pop, hanging-root}

-- the parents of these nodes
abbrev pub parents_of : List SpelledNode → List (Option ℕ)
parents_of nodes = map (λ (node : SpelledNode). node.parent) nodes

-- how many brackets are open at each
abbrev pub depths_of : List SpelledNode → List ℕ
depths_of nodes = map (λ (node : SpelledNode). node.depth) nodes

-- the nodes of the game hang below each other
pub record IsHungGame (game : SpelledGame) : Type 0 where
  pub nodes : AreHung (parents_of game.nodes) (depths_of game.nodes)

-- ---- each place within a tree

-- this node gets the next child, and then these parents
record HangsTree (last : Option ℕ) (parents : List (Option ℕ)) (nodes : List SpelledNode) : Type 0 where
  k : ℕ
  q : Option ℕ
  others : List (Option ℕ)
  is : last ∷ parents ≡ Some k ∷ q ∷ others
  hanging : Hanging (parents_of nodes) (depths_of nodes) k q others

-- the last of the nodes gets the next child
record HangsNode (last : Option ℕ) (parents : List (Option ℕ)) (nodes : List SpelledNode) : Type 0 where
  tree : HangsTree last parents nodes
  newest : last ≡ Some (length nodes - 1)

-- behind a bracket
record HangsOpened (last : Option ℕ) (parents : List (Option ℕ)) (nodes : List SpelledNode) : Type 0 where
  k : ℕ
  q : Option ℕ
  others : List (Option ℕ)
  is : parents ≡ Some k ∷ q ∷ others
  same : last ≡ Some k
  hanging : Hanging (parents_of nodes) (depths_of nodes) k q others

abbrev Hangs : Phase → Option ℕ → List (Option ℕ) → List SpelledNode → Type 0
Hangs (Opened from) last parents nodes = HangsOpened last parents nodes
Hangs InNode last parents nodes = HangsNode last parents nodes
Hangs (InName from upper) last parents nodes = HangsNode last parents nodes
Hangs (AfterName name) last parents nodes = HangsNode last parents nodes
Hangs (InValue name from) last parents nodes = HangsNode last parents nodes
Hangs (Escaped name from) last parents nodes = HangsNode last parents nodes
Hangs (AfterValue name) last parents nodes = HangsNode last parents nodes
Hangs AfterTree last parents nodes = HangsTree last parents nodes

abbrev PlaceHangs : Place → Type 0
PlaceHangs Outside = ⊤
PlaceHangs (Before from) = ⊤
PlaceHangs (Within s) = Hangs s.phase s.last s.parents s.nodes

record ScanHangs (s : Scan) : Type 0 where
  before : All IsHungGame s.games
  here : PlaceHangs s.place

-- ---- a pair more

pair-parents : (nodes : List SpelledNode) (pair : Pair) → parents_of (with_pair nodes pair) ≡ parents_of nodes
pair-parents [] pair = refl
pair-parents (x ∷ []) pair = refl
pair-parents (x ∷ y ∷ nodes) pair = ap (λ (ps : List (Option ℕ)). x.parent ∷ ps) (pair-parents (y ∷ nodes) pair)

pair-depths : (nodes : List SpelledNode) (pair : Pair) → depths_of (with_pair nodes pair) ≡ depths_of nodes
pair-depths [] pair = refl
pair-depths (x ∷ []) pair = refl
pair-depths (x ∷ y ∷ nodes) pair = ap (λ (ds : List ℕ). x.depth ∷ ds) (pair-depths (y ∷ nodes) pair)

-- nodes with the same parents and depths
hangs-same : (last : Option ℕ) (parents : List (Option ℕ)) (nodes more : List SpelledNode) → parents_of more ≡ parents_of nodes → depths_of more ≡ depths_of nodes → HangsNode last parents nodes → HangsNode last parents more
hangs-same last parents nodes more e f h =
    let t = h.tree in
    let counts : length nodes ≡ length more = sym (length-map nodes (λ (node : SpelledNode). node.parent)) ∙ ap length (sym e) ∙ length-map more (λ (node : SpelledNode). node.parent) in
    record {
      tree = record { k = t.k; q = t.q; others = t.others; is = t.is; hanging = subst (λ (ds : List ℕ). Hanging (parents_of more) ds t.k t.q t.others) (sym f) (subst (λ (ps : List (Option ℕ)). Hanging ps (depths_of nodes) t.k t.q t.others) (sym e) t.hanging) };
      newest = h.newest ∙ ap (λ (n : ℕ). Some (n - 1)) counts;
    }

-- ---- one byte

module _ (s : Inside) where
  at-node : EndsNode s.phase → Hangs s.phase s.last s.parents s.nodes → HangsNode s.last s.parents s.nodes
  at-node e h = by-phase s.phase e h where
    by-phase : (phase : Phase) → EndsNode phase → Hangs phase s.last s.parents s.nodes → HangsNode s.last s.parents s.nodes
    by-phase phase in_node h = h
    by-phase phase after_value h = h

  at-tree : EndsTree s.phase → Hangs s.phase s.last s.parents s.nodes → HangsTree s.last s.parents s.nodes
  at-tree e h = by-phase s.phase e h where
    by-phase : (phase : Phase) → EndsTree phase → Hangs phase s.last s.parents s.nodes → HangsTree s.last s.parents s.nodes
    by-phase phase (after_node in_node) h = h.tree
    by-phase phase (after_node after_value) h = h.tree
    by-phase phase after_tree h = h

  at-phase : (phase : Phase) → s.phase ≡ phase → Hangs s.phase s.last s.parents s.nodes → Hangs phase s.last s.parents s.nodes
  at-phase phase e h = subst (λ (ph : Phase). Hangs ph s.last s.parents s.nodes) e h

  moved-hangs : (count : ℕ) (phase : Phase) → Moves s count phase → Hangs s.phase s.last s.parents s.nodes → Hangs phase s.last s.parents s.nodes
  moved-hangs count phase Moves.stays h = h
  moved-hangs count phase (Moves.to_name e) h = at-node e h
  moved-hangs count phase (Moves.on_name {from = from} {old = old} e) h = at-phase (InName from old) e h
  moved-hangs count phase (Moves.named {from = from} e) h = at-phase (InName from true) e h
  moved-hangs count phase (Moves.named_value {from = from} e) h = at-phase (InName from true) e h
  moved-hangs count phase (Moves.value {name = name} (inl e)) h = at-phase (AfterName name) e h
  moved-hangs count phase (Moves.value {name = name} (inr e)) h = at-phase (AfterValue name) e h
  moved-hangs count phase (Moves.escape {name = name} {from = from} e) h = at-phase (InValue name from) e h
  moved-hangs count phase (Moves.unescape {name = name} {from = from} e) h = at-phase (Escaped name from) e h

  gains-hangs : (count : ℕ) (name : Span) (from : ℕ) → s.phase ≡ InValue name from → Hangs s.phase s.last s.parents s.nodes → HangsNode s.last s.parents (with_pair s.nodes (record { name = name; value = record { from = from; to = count } }))
  gains-hangs count name from e h =
      let pair : Pair = record { name = name; value = record { from = from; to = count } } in
      hangs-same s.last s.parents s.nodes (with_pair s.nodes pair) (pair-parents s.nodes pair) (pair-depths s.nodes pair) (at-phase (InValue name from) e h)

  -- the nodes with one more, which this one gets as a child
  more-hangs : (opened : Option ℕ) (count k : ℕ) (q : Option ℕ) (others : List (Option ℕ)) → s.last ≡ Some k → Hanging (parents_of s.nodes ++ Some k ∷ []) (depths_of s.nodes ++ length s.parents ∷ []) (length (parents_of s.nodes)) q others → s.parents ≡ q ∷ others → HangsNode (Some (length s.nodes)) s.parents (with_node s opened count).nodes
  more-hangs opened count k q others e h f =
      let node : SpelledNode = record { opened = opened; at = count; depth = length s.parents; parent = s.last; pairs = [] } in
      let parents : parents_of s.nodes ++ Some k ∷ [] ≡ parents_of (s.nodes ++ node ∷ []) = ap (λ (p : Option ℕ). parents_of s.nodes ++ p ∷ []) (sym e) ∙ sym (map_push (λ (n : SpelledNode). n.parent) s.nodes node) in
      let depths : depths_of s.nodes ++ length s.parents ∷ [] ≡ depths_of (s.nodes ++ node ∷ []) = sym (map_push (λ (n : SpelledNode). n.depth) s.nodes node) in
      let count_is : length (parents_of s.nodes) ≡ length s.nodes = length-map s.nodes (λ (n : SpelledNode). n.parent) in
      let last : length s.nodes ≡ length (s.nodes ++ node ∷ []) - 1 = omega (arith, length-append s.nodes (node ∷ [])) in
      record {
        tree = record {
          k = length s.nodes;
          q = q;
          others = others;
          is = ap (λ (ps : List (Option ℕ)). Some (length s.nodes) ∷ ps) f;
          hanging = subst (λ (n : ℕ). Hanging (parents_of (s.nodes ++ node ∷ [])) (depths_of (s.nodes ++ node ∷ [])) n q others) count_is (subst (λ (ds : List ℕ). Hanging (parents_of (s.nodes ++ node ∷ [])) ds (length (parents_of s.nodes)) q others) depths (subst (λ (ps : List (Option ℕ)). Hanging ps (depths_of s.nodes ++ length s.parents ∷ []) (length (parents_of s.nodes)) q others) parents h));
        };
        newest = ap (λ (n : ℕ). Some n) last;
      }

  begins-hangs : (count : ℕ) (phase : Phase) (opened : Option ℕ) → s.phase ≡ phase → BeginsNode phase opened → Hangs s.phase s.last s.parents s.nodes → HangsNode (Some (length s.nodes)) s.parents (with_node s opened count).nodes
  begins-hangs count phase opened e (BeginsNode.behind_bracket {from = from}) h =
      let o : HangsOpened s.last s.parents s.nodes = at-phase (Opened from) e h in
      more-hangs opened count o.k (Some o.k) (o.q ∷ o.others) o.same (hanging-push (parents_of s.nodes) (depths_of s.nodes) o.k o.q o.others o.hanging (length s.parents) (ap length o.is)) o.is
  begins-hangs count phase opened e (BeginsNode.behind_node n) h =
      let t : HangsNode s.last s.parents s.nodes = at-node (subst EndsNode (sym e) n) h in
      let is = t.tree.is in
      let parents : s.parents ≡ t.tree.q ∷ t.tree.others = cc in
      let same : s.last ≡ Some t.tree.k = cc in
      let both : Some t.tree.k ≡ Some (length s.nodes - 1) = sym same ∙ t.newest in
      let newest : t.tree.k ≡ length s.nodes - 1 = cc in
      let last : t.tree.k ≡ length (parents_of s.nodes) - 1 = omega (arith, newest, length-map s.nodes (λ (n : SpelledNode). n.parent)) in
      more-hangs opened count t.tree.k t.tree.q t.tree.others same (hanging-extend (parents_of s.nodes) (depths_of s.nodes) t.tree.k t.tree.q t.tree.others t.tree.hanging (length s.parents) last (ap length parents)) parents

  opens-hangs : EndsTree s.phase → Hangs s.phase s.last s.parents s.nodes → HangsOpened s.last (s.last ∷ s.parents) s.nodes
  opens-hangs e h =
      let t = at-tree e h in
      let is = t.is in
      record { k = t.k; q = t.q; others = t.others; is = is; same = (let same : s.last ≡ Some t.k = cc in same); hanging = t.hanging }

  closes-hangs : (games : List SpelledGame) (parents : List (Option ℕ)) → All IsHungGame games → HangsTree s.last parents s.nodes → ScanHangs (closed games s parents)
  closes-hangs games [] g t = record { before = g; here = tt }
  closes-hangs games (p ∷ []) g t = record { before = All-push IsHungGame games (record { at = s.at; nodes = s.nodes }) g (record { nodes = t.hanging.hung }); here = tt }
  closes-hangs games (p ∷ r ∷ parents) g t =
      let is = t.is in
      let same_q : p ≡ t.q = cc in
      let same_others : r ∷ parents ≡ t.others = cc in
      let hanging : Hanging (parents_of s.nodes) (depths_of s.nodes) t.k p (r ∷ parents) = subst (λ (x : Option ℕ). Hanging (parents_of s.nodes) (depths_of s.nodes) t.k x (r ∷ parents)) (sym same_q) (subst (λ (xs : List (Option ℕ)). Hanging (parents_of s.nodes) (depths_of s.nodes) t.k t.q xs) (sym same_others) t.hanging) in
      let popped = hanging-pop (parents_of s.nodes) (depths_of s.nodes) t.k p r parents hanging in
      record { before = g; here = record { k = popped.0; q = r; others = parents; is = ap (λ (x : Option ℕ). x ∷ r ∷ parents) {y = Some popped.0} popped.1; hanging = popped.2 } }

change-hangs : (games : List SpelledGame) (s : Inside) (count : ℕ) (t : Scan) → Change games s count t → All IsHungGame games → Hangs s.phase s.last s.parents s.nodes → ScanHangs t
change-hangs games s count t (Change.moves {phase = phase} m) g h = record { before = g; here = moved-hangs s count phase m h }
change-hangs games s count t (Change.gains {name = name} {from = from} e) g h = record { before = g; here = gains-hangs s count name from e h }
change-hangs games s count t (Change.begins {opened = opened} n) g h = record { before = g; here = begins-hangs s count s.phase opened refl n h }
change-hangs games s count t (Change.opens e) g h = record { before = g; here = opens-hangs s e h }
change-hangs games s count t (Change.closes e) g h = closes-hangs s games s.parents g (at-tree s e h)

way-hangs : (games : List SpelledGame) (count b : ℕ) (place : Place) (t : Scan) → Way games count b place t → All IsHungGame games → PlaceHangs place → ScanHangs t
way-hangs games count b place t (Way.out_open e) g h = record { before = g; here = tt }
way-hangs games count b place t (Way.out_skip e) g h = record { before = g; here = tt }
way-hangs games count b place t (Way.before_white e) g h = record { before = g; here = tt }
way-hangs games count b place t (Way.before_node {from = from} e) g h = record { before = g; here = record { tree = record { k = 0; q = None; others = []; is = refl; hanging = hanging-root }; newest = refl } }
way-hangs games count b place t (Way.before_open e) g h = record { before = g; here = tt }
way-hangs games count b place t (Way.before_skip e f k) g h = record { before = g; here = tt }
way-hangs games count b place t (Way.way_in {s = s} w) g h = change-hangs games s count t (changes games s count b t w) g h

reached-hangs : (text : List ℕ) (count : ℕ) (s : Scan) → count ≤ length text → Reached text count s → ScanHangs s
reached-hangs text count s h r =
    keeps text (λ k u. ScanHangs u) (record { before = All-nil IsHungGame; here = tt })
    (λ k u t st i. way-hangs u.games k st.way.0 u.place t st.way.1 i.before i.here) count s h r

-- the nodes of each game that a text has hang below each other
pub read-parents : (text : List ℕ) (games : List SpelledGame) → HasGames 0 text games → (game : SpelledGame) → Contains games game → AreHung (parents_of game.nodes) (depths_of game.nodes)
read-parents text games h game m =
    let scanned = spelled-scans text games h in
    let last : Scan = record { games = games; place = scanned.0 } in
    (All-contains IsHungGame games game (reached-hangs text (length text) last (omega arith) (reached-whole text last scanned.2)).before m).nodes
