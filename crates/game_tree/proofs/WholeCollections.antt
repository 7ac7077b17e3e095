-- A whole collection that is built: its trees, or its first fault.
use Rattle.std.proofs.Common.{◌≡◌, ◌⊎◌, ◌≤◌, ◌<◌, ◌+◌, ◌++◌, ◌∙◌, ℕ, zero, suc, List, [], ◌∷◌, Contains, refl, sym, ap, subst, arith, length, get_or, take, drop, inl, inr, codes}
use Rattle.std.specs.List.{AllZip}
use Rattle.std.proofs.Math.Seq.{split_at}
use Rattle.std.proofs.lemmas.Grind.{flat_map-append}
use Rattle.std.proofs.lemmas.List.{take_all, take_more}
use Rattle.std.proofs.lemmas.List.Elements.{All-contains, Contains-append_cases, Contains-append_left, Contains-append_right, Contains-push_cases}
use Rattle.sgf_reader.specs.declared.collection.Collection.{Collection}
use Rattle.sgf_reader.specs.declared.collection.Pair.{Pair}
use Rattle.sgf_reader.specs.declared.collection.RawGame.{RawGame}
use Rattle.sgf_reader.specs.declared.collection.RawNode.{RawNode}
use Rattle.sgf_reader.specs.declared.fault.FaultKind.{FaultKind}
use Rattle.sgf_reader.specs.Faults.{IsRead}
use Rattle.game_tree.specs.GameFaults.{HasGameFault, IsFirstGameFault}
use Rattle.game_tree.specs.GameFaults as game
use Rattle.game_tree.specs.NodeValues.{ComesFirst, HasNodeFault, HasPairFault, LiesIn}
use Rattle.game_tree.specs.NodeValues as values
use Rattle.game_tree.specs.Property.{offset_of, root_pairs}
use Rattle.game_tree.specs.RawGames.{IsOfText, node_pairs}
use Rattle.game_tree.specs.Tree.{Tree}
use Rattle.game_tree.specs.Trees.{IsTreeOf}
use Rattle.kb_geometry.specs.declared.shape.Shape.{Shape}
use Rattle.game_tree.specs.ValueFaults.{HasValueFault, IsBoard, IsFirstValueFault}
use Rattle.game_tree.specs.ValueFaults as value
use Rattle.game_tree.proofs.BuiltGames.{AllZip-push, of_text}
use Rattle.game_tree.proofs.GameFaults.{find_there, in_game}
use Rattle.game_tree.proofs.Parts.{AllPairs-across, AllPairs-back, Contains-head}
use Rattle.game_tree.proofs.ReadCollections.{game_pairs, games-read}

-- an element of a list, and what stands around it
split_of : {X : Type 0} (xs : List X) (x : X) → Contains xs x → (before : List X) × (after : List X) × (xs ≡ before ++ x ∷ after)
split_of xs x (k, below, is) = (take k xs, drop (suc k) xs, split_at xs k x below ∙ ap (λ y. take k xs ++ y ∷ drop (suc k) xs) is)

cons_cases : {X : Type 0} (x : X) (xs : List X) (y : X) → Contains (x ∷ xs) y → (x ≡ y) ⊎ Contains xs y
cons_cases x xs y (zero, below, is) = inl is
cons_cases x xs y (suc k, below, is) = inr (k, omega (arith, below), is)

-- a value of one of these games is one of theirs
in_part : (raws : List RawGame) (raw : RawGame) (pair : Pair) → Contains raws raw → Contains (node_pairs raw.nodes) pair → Contains (game_pairs raws) pair
in_part [] raw pair (k, below, is) there = absurd (omega arith)
in_part (r ∷ raws) raw pair (zero, below, is) there = Contains-append_left (node_pairs r.nodes) (game_pairs raws) pair (subst (λ (z : RawGame). Contains (node_pairs z.nodes) pair) (sym is) there)
in_part (r ∷ raws) raw pair (suc k, below, is) there = Contains-append_right (node_pairs r.nodes) (game_pairs raws) pair (in_part raws raw pair (k, omega (arith, below), is) there)

module _ (text : List ℕ) (collection : Collection) where
  -- a fault of the collection is one of a game
  pub to_game : (of : FaultKind) (at : ℕ) → HasValueFault text collection of at → (raw : RawGame) × Contains collection.games raw × HasGameFault text raw of at
  to_game _ _ (value.not_go {raw = raw} pair inner there found trimmed some other) = (raw, there, game.other_game pair found (inner, trimmed, some, other))
  to_game _ _ (value.bad_size {raw = raw} pair there found none) = (raw, there, game.no_size pair found none)
  to_game _ _ (value.bad_move {raw = raw} {node = node} pair shape there in_raw here board moves none) =
      let (before, after, split) = split_of node.pairs pair here in
      (raw, there, game.in_node shape node board in_raw (record { before = before; pair = pair; after = after; split = split; fault = values.bad_move moves none; here = refl }))
  to_game _ _ (value.bad_setup {raw = raw} {node = node} pair shape there in_raw here board sets none) =
      let (before, after, split) = split_of node.pairs pair here in
      (raw, there, game.in_node shape node board in_raw (record { before = before; pair = pair; after = after; split = split; fault = values.bad_setup sets none; here = refl }))
  to_game _ _ (value.two_moves {raw = raw} {node = node} pair before after there in_raw split moves counted) =
      (raw, there, game.second_move node pair in_raw (record { before = before; after = after; split = split; moves = moves; counted = counted }))

  fault_in : (pairs before : List Pair) (pair : Pair) (after : List Pair) → pairs ≡ before ++ pair ∷ after → Contains pairs pair
  fault_in pairs before pair after split = subst (λ ps. Contains ps pair) (sym split) (Contains-append_right before (pair ∷ after) pair (Contains-head pair after))

  -- a fault of a node of the collection
  from_node : (raw : RawGame) (n : RawNode) (shape : Shape) (of : FaultKind) (before : List Pair) (pair : Pair) (after : List Pair) → Contains collection.games raw → IsBoard text raw shape → Contains raw.nodes n → n.pairs ≡ before ++ pair ∷ after → HasPairFault text shape before pair of → HasValueFault text collection of (offset_of pair)
  from_node raw n shape _ before pair after there board in_raw split (values.second_of_two moves counted) = value.two_moves pair before after there in_raw split moves counted
  from_node raw n shape _ before pair after there board in_raw split (values.bad_move moves none) = value.bad_move pair shape there in_raw (fault_in n.pairs before pair after split) board moves none
  from_node raw n shape _ before pair after there board in_raw split (values.bad_setup sets none) = value.bad_setup pair shape there in_raw (fault_in n.pairs before pair after split) board sets none

  -- a fault of a game is one of the collection
  from_game : (raw : RawGame) (of : FaultKind) (at : ℕ) → Contains collection.games raw → HasGameFault text raw of at → HasValueFault text collection of at
  from_game raw _ _ there (game.other_game pair found (inner, trimmed, some, other)) = value.not_go pair inner there found trimmed some other
  from_game raw _ _ there (game.no_size pair found none) = value.bad_size pair there found none
  from_game raw of at there (game.in_node shape n board in_raw f) = subst (HasValueFault text collection of) (sym f.here) (from_node raw n shape of f.before f.pair f.after there board in_raw f.split f.fault)
  from_game raw _ _ there (game.second_move n pair in_raw second) = value.two_moves pair second.before second.after there in_raw second.split second.moves second.counted

  -- a value of a root is one of its game's
  root-value : (nodes : List RawNode) (pair : Pair) → Contains (root_pairs (record { nodes = nodes })) pair → Contains (node_pairs nodes) pair
  root-value [] pair (k, below, is) = absurd (omega arith)
  root-value (n ∷ nodes) pair there = Contains-append_left n.pairs (node_pairs nodes) pair there

  -- the value of a game's fault
  fault_value : (raw : RawGame) (known : IsOfText text raw) (of : FaultKind) (at : ℕ) → HasGameFault text raw of at → (pair : Pair) × Contains (node_pairs raw.nodes) pair × (at ≡ offset_of pair)
  fault_value raw known _ _ (game.other_game pair found other) = (pair, root-value raw.nodes pair (find_there text (root_pairs raw) (codes "GM") pair found).0, refl)
  fault_value raw known _ _ (game.no_size pair found none) = (pair, root-value raw.nodes pair (find_there text (root_pairs raw) (codes "SZ") pair found).0, refl)
  fault_value raw known _ _ (game.in_node shape n board in_raw f) =
      let (read, ascend, short) = of_text text raw known in
      (f.pair, in_game text raw read.inside ascend raw.nodes n f.pair in_raw (fault_in n.pairs f.before f.pair f.after f.split), f.here)
  fault_value raw known _ _ (game.second_move n pair in_raw second) =
      let (read, ascend, short) = of_text text raw known in
      (pair, in_game text raw read.inside ascend raw.nodes n pair in_raw (fault_in n.pairs second.before pair second.after second.split), refl)

  -- the games read so far, with their trees
  pub record HasBuiltGames (i : ℕ) (trees : List Tree) : Type 0 where
    pub trees_of : AllZip (IsTreeOf text) (take i collection.games) trees
    pub clean : (raw : RawGame) → Contains (take i collection.games) raw → (of : FaultKind) (at : ℕ) → ¬ HasGameFault text raw of at

  module _ (read : IsRead text collection) where
    pub of_game : (raw : RawGame) → Contains collection.games raw → IsOfText text raw
    of_game raw there = record { collection = collection; read = read; there = there }

    pub HasBuiltGames-start : HasBuiltGames 0 []
    HasBuiltGames-start = record { trees_of = tt; clean = λ raw (k, below, is). absurd (omega arith) }

    pub HasBuiltGames-more : (i : ℕ) (raw : RawGame) (trees : List Tree) (tree : Tree) → i < length collection.games → raw ≡ get_or collection.games i raw → HasBuiltGames i trees → IsTreeOf text raw tree → ((of : FaultKind) (at : ℕ) → ¬ HasGameFault text raw of at) → HasBuiltGames (i + 1) (trees ++ tree ∷ [])
    HasBuiltGames-more i raw trees tree below is h built clean =
        let first : take (i + 1) collection.games ≡ take i collection.games ++ raw ∷ [] = take_more collection.games i raw below ∙ ap (λ r. take i collection.games ++ r ∷ []) (sym is) in
        record {
          trees_of = subst (λ raws. AllZip (IsTreeOf text) raws (trees ++ tree ∷ [])) (sym first) (AllZip-push (IsTreeOf text) (take i collection.games) trees raw tree h.trees_of built);
          clean = λ other there. elim (Contains-push_cases (take i collection.games) raw other (subst (λ raws. Contains raws other) first there)) [
            | inl before ↦ h.clean other before
            | inr same ↦ subst (λ (r : RawGame). (of : FaultKind) (at : ℕ) → ¬ HasGameFault text r of at) same clean
          ];
        }

    pub built-all : (i : ℕ) (trees : List Tree) → length collection.games ≤ i → HasBuiltGames i trees → AllZip (IsTreeOf text) collection.games trees × ((of : FaultKind) (at : ℕ) → ¬ HasValueFault text collection of at)
    built-all i trees ended h =
        let whole : take i collection.games ≡ collection.games = take_all i collection.games ended in (
          subst (λ raws. AllZip (IsTreeOf text) raws trees) whole h.trees_of,
          λ of at f. let (raw, there, g) = to_game of at f in h.clean raw (subst (λ raws. Contains raws raw) (sym whole) there) of at g,
        )

    -- the first fault of a game behind games without one
    pub game-bad : (i : ℕ) (raw : RawGame) (trees : List Tree) (of : FaultKind) (at : ℕ) → i < length collection.games → raw ≡ get_or collection.games i raw → HasBuiltGames i trees → IsFirstGameFault text raw of at → IsFirstValueFault text collection of at
    game-bad i raw trees of at below is h first = record {
      there = from_game raw of at in_games first.there;
      first = λ other offset f. later (to_game other offset f);
    }
      where
        rest : List RawGame
        rest = drop (suc i) collection.games

        split : collection.games ≡ take i collection.games ++ raw ∷ rest
        split = split_at collection.games i raw below ∙ ap (λ r. take i collection.games ++ r ∷ rest) (sym is)

        in_games : Contains collection.games raw
        in_games = subst (λ raws. Contains raws raw) (sym split) (Contains-append_right (take i collection.games) (raw ∷ rest) raw (Contains-head raw rest))

        behind : (other : RawGame) (p q : Pair) → Contains rest other → Contains (node_pairs raw.nodes) p → Contains (node_pairs other.nodes) q → p.value.from < q.value.from
        behind other p q there in_raw in_other =
            let parts : game_pairs collection.games ≡ game_pairs (take i collection.games) ++ (node_pairs raw.nodes ++ game_pairs rest) = ap game_pairs split ∙ flat_map-append (λ (r : RawGame). node_pairs r.nodes) (take i collection.games) (raw ∷ rest) in
            let order = subst values.Ascend parts (games-read text collection read).ascending in
            AllPairs-across (λ (a b : Pair). a.value.from < b.value.from) (node_pairs raw.nodes) (game_pairs rest) p q
            (AllPairs-back (λ (a b : Pair). a.value.from < b.value.from) (game_pairs (take i collection.games)) (node_pairs raw.nodes ++ game_pairs rest) order)
            in_raw (in_part rest other q there in_other)

        later : {other : FaultKind} {offset : ℕ} → (r : RawGame) × Contains collection.games r × HasGameFault text r other offset → ComesFirst of at other offset
        later {other = other} {offset = offset} (r, there, g) = elim (Contains-append_cases (take i collection.games) (raw ∷ rest) r (subst (λ raws. Contains raws r) split there)) [
          | inl before ↦ absurd (h.clean r before other offset g)
          | inr from ↦ elim (cons_cases raw rest r from) [
            | inl same ↦ first.first other offset (subst (λ (z : RawGame). HasGameFault text z other offset) (sym same) g)
            | inr after ↦
                let (p, in_raw, at_p) = fault_value raw (of_game raw in_games) of at first.there in
                let (q, in_other, at_q) = fault_value r (of_game r there) other offset g in
                let order = behind r p q after in_raw in_other in
                let lies = (All-contains (LiesIn (length text)) (node_pairs raw.nodes) p (of_text text raw (of_game raw in_games)).0.inside in_raw).bracket in
                inl (omega (arith, order, lies, at_p, at_q))
          ]
        ]
