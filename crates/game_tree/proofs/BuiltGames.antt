-- A game that is built node by node.
use Rattle.std.proofs.Common.{◌≡◌, ◌⊎◌, ◌≤◌, ◌<◌, ◌+◌, ◌++◌, ◌∙◌, ℕ, zero, suc, List, [], ◌∷◌, All, Contains, Option, Some, None, IfSome, refl, sym, ap, subst, arith, length, length-append, get_or, take, drop, length-take-le, inl, inr}
use Rattle.std.specs.List.{AllZip}
use Rattle.std.proofs.Math.Seq.{split_at}
use Rattle.std.proofs.lemmas.Grind.{flat_map-append}
use Rattle.std.proofs.lemmas.List.{append-nil, get_or-map, length-map, map-append, take_more}
use Rattle.std.proofs.lemmas.List.Elements.{All-contains, Contains-push_cases}
use Rattle.kb_geometry.specs.declared.shape.Shape.{Shape}
use Rattle.sgf_reader.specs.Limits.{most_bytes}
use Rattle.sgf_reader.proofs.WithinLimits.{read-within_limits}
use Rattle.game_tree.specs.declared.node.Move.{Move}
use Rattle.game_tree.specs.declared.node.Setup.{Setup}
use Rattle.game_tree.specs.Tree.{Node}
use Rattle.game_tree.specs.Trees.{AreSetups, IsNodeOf}
use Rattle.game_tree.proofs.HungTrees.{next_parent}
use Rattle.game_tree.proofs.Parts.{AllPairs-part, All-part, Contains-at}
use Rattle.game_tree.proofs.ReadCollections.{GameIsRead, games-read}
use Rattle.sgf_reader.specs.declared.collection.Pair.{Pair}
use Rattle.sgf_reader.specs.declared.collection.RawGame.{RawGame}
use Rattle.sgf_reader.specs.declared.collection.RawNode.{RawNode}
use Rattle.sgf_reader.specs.declared.fault.FaultKind.{FaultKind}
use Rattle.sgf_reader.specs.declared.fault.SgfFault.{SgfFault}
use Rattle.game_tree.specs.declared.building.BuildError.TheVariants.{Fault}
use Rattle.game_tree.specs.Built.{Built, IsNextParent, nothing_built, with_node}
use Rattle.game_tree.specs.NodeValues.{AreValuesRead, Ascend, HasNodeFault, LiesIn, IsFirstNodeFault, with_setups}
use Rattle.game_tree.specs.RawGames.{HasBuilt, IsNodeBad, IsNodeRead, IsOfText, IsRootBad, by_game, by_value, node_pairs, raw_parents}

-- the fault of a root by its values
pub root_bad-value : (text : List ℕ) (shape : Shape) (root : RawNode) (game : Option SgfFault) (own answer f : SgfFault) → IsFirstNodeFault text shape root.pairs own.kind own.at → Fault answer ≡ Fault f → (answer ≡ own) ⊎ (game ≡ Some answer) → answer.at ≤ own.at → IfSome game (λ (g : SgfFault). answer.at ≤ g.at) → IsRootBad text shape root game f
root_bad-value text shape root game own answer f first e one least least_game =
    let same : answer ≡ f = cc in
    subst (IsRootBad text shape root game) same (by_value first one least least_game)

-- the fault of a root by its game
pub root_bad-game : (text : List ℕ) (shape : Shape) (root : RawNode) (game : Option SgfFault) (g f : SgfFault) → ((of : FaultKind) (at : ℕ) → ¬ HasNodeFault text shape root.pairs of at) → game ≡ Some g → Fault g ≡ Fault f → IsRootBad text shape root game f
root_bad-game text shape root game g f clean there e =
    let same : g ≡ f = cc in
    subst (IsRootBad text shape root game) same (by_game clean there)

-- ---- what is known of a raw game

pub of_text : (text : List ℕ) (raw : RawGame) → IsOfText text raw → GameIsRead (length text) raw × Ascend (node_pairs raw.nodes) × (length text ≤ most_bytes)
of_text text raw known =
    let all = games-read text known.collection known.read in
    let (games, read, is) = known.read in (
      All-contains (GameIsRead (length text)) known.collection.games raw all.each known.there,
      AllPairs-part (λ (a b : Pair). a.value.from < b.value.from) (λ (r : RawGame). node_pairs r.nodes) known.collection.games raw all.ascending known.there,
      (read-within_limits games text read).0,
    )

-- values that ascend are no more than the bytes
ascend-above : (pairs : List Pair) (end : ℕ) (d : Pair) → Ascend pairs → All (LiesIn end) pairs → (i : ℕ) → i < length pairs → i < (get_or pairs i d).value.from
ascend-above pairs end d ascend inside zero below = let h = (inside 0 d below).bracket in omega (arith, h)
ascend-above pairs end d ascend inside (suc i) below =
    let before = ascend-above pairs end d ascend inside i (omega arith) in
    omega (arith, before, ascend i (suc i) d (omega arith) below)

pub ascend-few : (pairs : List Pair) (end : ℕ) → Ascend pairs → All (LiesIn end) pairs → length pairs ≤ end
ascend-few [] end ascend inside = omega arith
ascend-few (p ∷ pairs) end ascend inside =
    let last = length pairs in
    let above = ascend-above (p ∷ pairs) end p ascend inside last (omega arith) in
    let lies = inside last p (omega arith) in
    omega (arith, above, lies.value, lies.value_in)

-- ---- nodes so far

-- a node sets up at most as much as it has values
setups-few : (text : List ℕ) (shape : Shape) (pairs : List Pair) (setups : List Setup) → AreSetups text shape pairs setups → length setups ≤ length pairs
setups-few text shape _ _ AreSetups.none = omega arith
setups-few text shape _ _ (AreSetups.other {pairs = pairs} {setups = setups} by more) = omega (arith, setups-few text shape pairs setups more)
setups-few text shape _ _ (AreSetups.ignored {pairs = pairs} {setups = setups} cell by empty more) = omega (arith, setups-few text shape pairs setups more)
setups-few text shape _ _ (AreSetups.set {pairs = pairs} {setups = setups} cell rect by value more) = omega (arith, setups-few text shape pairs setups more)

pub AllZip-push : {A B : Type 0} (R : A → B → Type 0) (xs : List A) (ys : List B) (x : A) (y : B) → AllZip R xs ys → R x y → AllZip R (xs ++ x ∷ []) (ys ++ y ∷ [])
AllZip-push R [] [] x y h r = (r, tt)
AllZip-push R [] (b ∷ ys) x y h r = absurd h
AllZip-push R (a ∷ xs) [] x y h r = absurd h
AllZip-push R (a ∷ xs) (b ∷ ys) x y h r = (h.0, AllZip-push R xs ys x y h.1 r)

module _ (text : List ℕ) (raw : RawGame) (shape : Shape) where
  pub HasBuilt-start : HasBuilt text raw shape 0 (nothing_built shape)
  HasBuilt-start = record { shape_is = refl; parents = refl; nodes = tt; clean = λ n (k, below, is). absurd (omega arith); pending = refl; count = omega arith }

  one-more : (k : ℕ) (d : RawNode) (b : Built) (setups : List Setup) (played : Option Move) → k < length raw.nodes → HasBuilt text raw shape k b → AreValuesRead text shape (get_or raw.nodes k d).pairs setups played → HasBuilt text raw shape (k + 1) (with_node (with_setups b setups) (get_or raw.nodes k d).parent played)
  one-more k d b setups played below h read =
      let node = get_or raw.nodes k d in
      let added : Node = record { parent = node.parent; setups = b.pending ++ setups; played = played } in
      let first : take (k + 1) raw.nodes ≡ take k raw.nodes ++ node ∷ [] = take_more raw.nodes k d below in
      let own : b.pending ++ setups ≡ setups = ap (λ p. p ++ setups) h.pending in
      record {
        shape_is = h.shape_is;
        parents =
            let rp = raw_parents raw.nodes in
            let short : k < length rp = omega (arith, length-map raw.nodes (λ (n : RawNode). n.parent)) in
            let here : get_or rp k None ≡ node.parent = get_or-map (λ (n : RawNode). n.parent) raw.nodes k d None below in
            map-append (λ (n : Node). n.parent) b.nodes (added ∷ []) ∙ ap (λ ps. ps ++ node.parent ∷ []) h.parents ∙ ap (λ p. take k rp ++ p ∷ []) (sym here) ∙ sym (take_more rp k None short);
        nodes = subst (λ ns. AllZip (IsNodeOf text shape) ns (b.nodes ++ added ∷ [])) (sym first) (AllZip-push (IsNodeOf text shape) (take k raw.nodes) b.nodes node added h.nodes (record { parent = refl; setups = subst (AreSetups text shape node.pairs) (sym own) read.sets; played = read.plays }));
        clean = λ n there. elim (Contains-push_cases (take k raw.nodes) node n (subst (λ ns. Contains ns n) first there)) [
          | inl before ↦ h.clean n before
          | inr same ↦ subst (λ (m : RawNode). (of : FaultKind) (at : ℕ) → ¬ HasNodeFault text shape m.pairs of at) same read.no_fault
        ];
        pending = refl;
        count =
            let parts : node_pairs (take (k + 1) raw.nodes) ≡ node_pairs (take k raw.nodes) ++ (node.pairs ++ []) = ap node_pairs first ∙ flat_map-append (λ (n : RawNode). n.pairs) (take k raw.nodes) (node ∷ []) in
            let whole = ap length parts in
            let joined = length-append (node_pairs (take k raw.nodes)) (node.pairs ++ []) in
            let alone = ap length (append-nil node.pairs) in
            omega (arith, h.count, setups-few text shape node.pairs setups read.sets, whole, joined, alone);
      }

  pub HasBuilt-more : (k : ℕ) (d : RawNode) (b after : Built) → k < length raw.nodes → HasBuilt text raw shape k b → IsNodeRead text shape (get_or raw.nodes k d) b after → HasBuilt text raw shape (k + 1) after
  HasBuilt-more k d b after below h read = subst (HasBuilt text raw shape (k + 1)) (sym read.added) (one-more k d b read.setups read.played below h read.read)

  -- there is room for the setups of the next node
  pub room-next : (k : ℕ) (d : RawNode) (b : Built) → GameIsRead (length text) raw → Ascend (node_pairs raw.nodes) → length text ≤ most_bytes → k < length raw.nodes → HasBuilt text raw shape k b → b.setup_count + length (get_or raw.nodes k d).pairs < 4294967295
  room-next k d b known ascend short below h =
      let node = get_or raw.nodes k d in
      let split : raw.nodes ≡ take k raw.nodes ++ node ∷ drop (suc k) raw.nodes = split_at raw.nodes k d below in
      let parts : node_pairs raw.nodes ≡ node_pairs (take k raw.nodes) ++ (node.pairs ++ node_pairs (drop (suc k) raw.nodes)) = ap node_pairs split ∙ flat_map-append (λ (n : RawNode). n.pairs) (take k raw.nodes) (node ∷ drop (suc k) raw.nodes) in
      let whole = ap length parts in
      let joined = length-append (node_pairs (take k raw.nodes)) (node.pairs ++ node_pairs (drop (suc k) raw.nodes)) in
      let rest = length-append node.pairs (node_pairs (drop (suc k) raw.nodes)) in
      let few = ascend-few (node_pairs raw.nodes) (length text) ascend known.inside in
      omega (arith, h.count, whole, joined, rest, few, short)

-- ---- the next node

-- what is known of a node that is read next
pub record IsNext (text : List ℕ) (b : Built) (node : RawNode) : Type 0 where
  pub nodes : length b.nodes < 65536
  pub parent : IsNextParent b node.parent
  pub room : b.setup_count + length node.pairs < 4294967295
  pub inside : All (LiesIn (length text)) node.pairs
  pub ascending : Ascend node.pairs

pub next-at : (text : List ℕ) (raw : RawGame) (shape : Shape) (k : ℕ) (d : RawNode) (b : Built) → IsOfText text raw → k < length raw.nodes → HasBuilt text raw shape k b → IsNext text b (get_or raw.nodes k d)
next-at text raw shape k d b known below h =
    let (read, ascend, short) = of_text text raw known in
    let there = Contains-at raw.nodes k d below in
    let counted = ap length h.parents in
    let many = length-map b.nodes (λ (n : Node). n.parent) in
    let few = read.few in
    let here : get_or (raw_parents raw.nodes) k None ≡ (get_or raw.nodes k d).parent = get_or-map (λ (n : RawNode). n.parent) raw.nodes k d None below in
    record {
      nodes = omega (arith, counted, many, few, length-take-le k (raw_parents raw.nodes) (omega (arith, length-map raw.nodes (λ (n : RawNode). n.parent))), length-map raw.nodes (λ (n : RawNode). n.parent));
      parent = subst (IsNextParent b) here (next_parent (length text) raw read b k below h.parents);
      room = room-next text raw shape k d b read ascend short below h;
      inside = All-part (LiesIn (length text)) (λ (n : RawNode). n.pairs) raw.nodes (get_or raw.nodes k d) read.inside there;
      ascending = AllPairs-part (λ (p q : Pair). p.value.from < q.value.from) (λ (n : RawNode). n.pairs) raw.nodes (get_or raw.nodes k d) ascend there;
    }

-- a node of the game
module _ (text : List ℕ) (raw : RawGame) (shape : Shape) (known : IsOfText text raw) (k : ℕ) (node : RawNode) (below : k < length raw.nodes) (is : node ≡ get_or raw.nodes k node) where
  pub node-next : (b : Built) → HasBuilt text raw shape k b → IsNext text b node
  node-next b h = subst (IsNext text b) (sym is) (next-at text raw shape k node b known below h)

  pub node-read : (b after : Built) → HasBuilt text raw shape k b → IsNodeRead text shape node b after → HasBuilt text raw shape (k + 1) after
  node-read b after h read = HasBuilt-more text raw shape k node b after below h (subst (λ (n : RawNode). IsNodeRead text shape n b after) is read)

  pub node-bad : (b : Built) (f : SgfFault) → HasBuilt text raw shape k b → IsFirstNodeFault text shape node.pairs f.kind f.at → IsNodeBad text raw shape f
  node-bad b f h first = record {
    done = take k raw.nodes;
    node = node;
    rest = drop (suc k) raw.nodes;
    split = split_at raw.nodes k node below ∙ ap (λ (n : RawNode). take k raw.nodes ++ n ∷ drop (suc k) raw.nodes) (sym is);
    clean = h.clean;
    first = first;
  }
