-- Lists that are stored flat, and what they show.
use Prim.Native.Nat.{zero}
use Rattle.std.proofs.Common.{◌≡◌, ℕ, suc, ◌+◌, ◌-◌, ◌<◌, ◌≤◌, List, [], ◌∷◌, ◌++◌, length, take, drop, get_or, refl, sym, ap, ap₂, ◌∙◌, subst, arith, length-take-le}
use Rattle.std.proofs.lemmas.List.{take-append-le, take_at, take_all, take-take, drop_at, drop-append-le}
use Rattle.std.proofs.lemmas.Slice.{between_from_start, between_is, between_to_end}
use Rattle.std.specs.List.{between}
use Rattle.sgf_reader.specs.declared.collection.Collection.{Collection}
use Rattle.sgf_reader.specs.declared.collection.Pair.{Pair}
use Rattle.sgf_reader.specs.declared.collection.RawGame.{RawGame}
use Rattle.sgf_reader.specs.declared.collection.RawNode.{RawNode}
use Rattle.sgf_reader.specs.declared.flat.NodeStart.{NodeStart}
use Rattle.sgf_reader.specs.Flat.{AreEnds, AreStarts, games_behind, last_end, shown_collection, shown_nodes, start_of}
use Rattle.sgf_reader.specs.Reading.{with_raw_pair}

-- ---- parts of lists

between-longer : {X : Type 0} (xs ys : List X) (i j : ℕ) → j ≤ length xs → between i j (xs ++ ys) ≡ between i j xs
between-longer xs ys i j h = between_is (xs ++ ys) i j ∙ ap (drop i) (take-append-le j xs ys h) ∙ sym (between_is xs i j)

between-cut : {X : Type 0} (xs : List X) (i j n : ℕ) → j ≤ n → between i j (take n xs) ≡ between i j xs
between-cut xs i j n h = between_is (take n xs) i j ∙ ap (drop i) (take-take j n xs h) ∙ sym (between_is xs i j)

-- ---- starts

starts-le : (from : ℕ) (nodes : List NodeStart) (whole : ℕ) → AreStarts from nodes whole → from ≤ whole
starts-le from [] whole h = h
starts-le from (node ∷ nodes) whole h =
    let behind = starts-le node.values_from nodes whole h.1 in omega (arith, h.0, behind)

pub starts-longer : (from : ℕ) (nodes : List NodeStart) (whole more : ℕ) → AreStarts from nodes whole → whole ≤ more → AreStarts from nodes more
starts-longer from [] whole more h longer = omega (arith, h, longer)
starts-longer from (node ∷ nodes) whole more h longer = (h.0, starts-longer node.values_from nodes whole more h.1 longer)

pub starts-node : (from : ℕ) (nodes : List NodeStart) (node : NodeStart) (whole : ℕ) → AreStarts from nodes whole → node.values_from ≡ whole → AreStarts from (nodes ++ node ∷ []) whole
starts-node from [] node whole h is = (omega (arith, h, is), omega (arith, is))
starts-node from (first ∷ nodes) node whole h is = (h.0, starts-node first.values_from nodes node whole h.1 is)

starts-drop : (n from : ℕ) (nodes : List NodeStart) (whole : ℕ) → AreStarts from nodes whole → AreStarts 0 (drop n nodes) whole
starts-drop zero from [] whole h = omega arith
starts-drop zero from (node ∷ nodes) whole h = (omega arith, h.1)
starts-drop (suc n) from [] whole h = omega arith
starts-drop (suc n) from (node ∷ nodes) whole h = starts-drop n node.values_from nodes whole h.1

pub start-bounds : (from : ℕ) (nodes : List NodeStart) (k : ℕ) (pairs : List Pair) → AreStarts from nodes (length pairs) → (from ≤ start_of nodes k pairs) × (start_of nodes k pairs ≤ length pairs)
start-bounds from [] zero pairs h = (h, omega arith)
start-bounds from [] (suc k) pairs h = (h, omega arith)
start-bounds from (node ∷ nodes) zero pairs h = (h.0, starts-le node.values_from nodes (length pairs) h.1)
start-bounds from (node ∷ nodes) (suc k) pairs h =
    let behind = start-bounds node.values_from nodes k pairs h.1 in (omega (arith, h.0, behind.0), behind.1)

starts-take : (n from : ℕ) (nodes : List NodeStart) (pairs : List Pair) → AreStarts from nodes (length pairs) → AreStarts from (take n nodes) (start_of nodes n pairs)
starts-take zero from [] pairs h = h
starts-take zero from (node ∷ nodes) pairs h = h.0
starts-take (suc n) from [] pairs h = h
starts-take (suc n) from (node ∷ nodes) pairs h = (h.0, starts-take n node.values_from nodes pairs h.1)

-- ---- nodes

pub length-shown : (nodes : List NodeStart) (pairs : List Pair) → length (shown_nodes nodes pairs) ≡ length nodes
length-shown [] pairs = refl
length-shown (node ∷ []) pairs = refl
length-shown (node ∷ next ∷ nodes) pairs = ap (λ n. suc n) (length-shown (next ∷ nodes) pairs)

with_raw_pair-behind : (node : RawNode) (nodes : List RawNode) (pair : Pair) → 1 ≤ length nodes → with_raw_pair (node ∷ nodes) pair ≡ node ∷ with_raw_pair nodes pair
with_raw_pair-behind node [] pair h = absurd (omega (arith, h))
with_raw_pair-behind node (next ∷ nodes) pair h = refl

-- one value more
pub shown-pair : (from : ℕ) (nodes : List NodeStart) (pairs : List Pair) (pair : Pair) → AreStarts from nodes (length pairs) → shown_nodes nodes (pairs ++ pair ∷ []) ≡ with_raw_pair (shown_nodes nodes pairs) pair
shown-pair from [] pairs pair h = refl
shown-pair from (node ∷ []) pairs pair h =
    ap (λ (ps : List Pair). record { parent = node.parent; pairs = ps } ∷ []) (drop-append-le node.values_from pairs (pair ∷ []) h.1)
shown-pair from (node ∷ next ∷ nodes) pairs pair h =
    let within = starts-le next.values_from nodes (length pairs) h.1.1 in
    let here = between-longer pairs (pair ∷ []) node.values_from next.values_from within in
    let some : 1 ≤ length (shown_nodes (next ∷ nodes) pairs) = omega (arith, length-shown (next ∷ nodes) pairs) in
    ap₂ (λ (ps : List Pair) (rest : List RawNode). record { parent = node.parent; pairs = ps } ∷ rest) here (shown-pair node.values_from (next ∷ nodes) pairs pair h.1)
    ∙ sym (with_raw_pair-behind (record { parent = node.parent; pairs = between node.values_from next.values_from pairs }) (shown_nodes (next ∷ nodes) pairs) pair some)

-- one node more, with these values
pub shown-node : (from : ℕ) (nodes : List NodeStart) (node : NodeStart) (pairs more : List Pair) → AreStarts from nodes (length pairs) → node.values_from ≡ length pairs → shown_nodes (nodes ++ node ∷ []) (pairs ++ more) ≡ shown_nodes nodes pairs ++ record { parent = node.parent; pairs = more } ∷ []
shown-node from [] node pairs more h is =
    ap (λ (ps : List Pair). record { parent = node.parent; pairs = ps } ∷ []) (drop_at pairs more node.values_from (sym is))
shown-node from (first ∷ []) node pairs more h is =
    let cut : between first.values_from node.values_from (pairs ++ more) ≡ drop first.values_from pairs =
    between_is (pairs ++ more) first.values_from node.values_from ∙ ap (drop first.values_from) (take_at pairs more node.values_from (sym is)) in
    ap₂ (λ (ps qs : List Pair). record { parent = first.parent; pairs = ps } ∷ record { parent = node.parent; pairs = qs } ∷ []) cut (drop_at pairs more node.values_from (sym is))
shown-node from (first ∷ next ∷ nodes) node pairs more h is =
    let within = starts-le next.values_from nodes (length pairs) h.1.1 in
    ap₂ (λ (ps : List Pair) (rest : List RawNode). record { parent = first.parent; pairs = ps } ∷ rest) (between-longer pairs more first.values_from next.values_from within) (shown-node first.values_from (next ∷ nodes) node pairs more h.1 is)

shown-drop : (n : ℕ) (nodes : List NodeStart) (pairs : List Pair) → shown_nodes (drop n nodes) pairs ≡ drop n (shown_nodes nodes pairs)
shown-drop zero nodes pairs = refl
shown-drop (suc n) [] pairs = refl
shown-drop (suc n) (node ∷ []) pairs = shown-drop n [] pairs
shown-drop (suc n) (node ∷ next ∷ nodes) pairs = shown-drop n (next ∷ nodes) pairs

shown-take : (n from : ℕ) (nodes : List NodeStart) (pairs : List Pair) → AreStarts from nodes (length pairs) → shown_nodes (take n nodes) (take (start_of nodes n pairs) pairs) ≡ take n (shown_nodes nodes pairs)
shown-take zero from nodes pairs h = refl
shown-take (suc n) from [] pairs h = refl
shown-take (suc zero) from (node ∷ []) pairs h =
    ap (λ (ps : List Pair). record { parent = node.parent; pairs = drop node.values_from ps } ∷ []) (take_all (length pairs) pairs (omega arith))
shown-take (suc (suc n)) from (node ∷ []) pairs h =
    ap (λ (ps : List Pair). record { parent = node.parent; pairs = drop node.values_from ps } ∷ []) (take_all (length pairs) pairs (omega arith))
shown-take (suc zero) from (node ∷ next ∷ nodes) pairs h =
    ap (λ (ps : List Pair). record { parent = node.parent; pairs = ps } ∷ []) (sym (between_is pairs node.values_from next.values_from))
shown-take (suc (suc n)) from (node ∷ next ∷ nodes) pairs h =
    let bounds = start-bounds next.values_from nodes n pairs h.1.1 in
    ap₂ (λ (ps : List Pair) (rest : List RawNode). record { parent = node.parent; pairs = ps } ∷ rest) (between-cut pairs node.values_from next.values_from (start_of nodes n pairs) bounds.0) (shown-take (suc n) node.values_from (next ∷ nodes) pairs h.1)

-- some of the nodes
pub shown-part : (i j : ℕ) (nodes : List NodeStart) (pairs : List Pair) → AreStarts 0 nodes (length pairs) → shown_nodes (between i j nodes) (take (start_of nodes j pairs) pairs) ≡ between i j (shown_nodes nodes pairs)
shown-part i j nodes pairs h =
    ap (λ (ns : List NodeStart). shown_nodes ns (take (start_of nodes j pairs) pairs)) (between_is nodes i j)
    ∙ shown-drop i (take j nodes) (take (start_of nodes j pairs) pairs)
    ∙ ap (drop i) (shown-take j 0 nodes pairs h)
    ∙ sym (between_is (shown_nodes nodes pairs) i j)

pub starts-part : (i j : ℕ) (nodes : List NodeStart) (pairs : List Pair) → AreStarts 0 nodes (length pairs) → AreStarts 0 (between i j nodes) (length (take (start_of nodes j pairs) pairs))
starts-part i j nodes pairs h =
    let bounds = start-bounds 0 nodes j pairs h in
    let cut = starts-drop i 0 (take j nodes) (start_of nodes j pairs) (starts-take j 0 nodes pairs h) in
    let parts : AreStarts 0 (between i j nodes) (start_of nodes j pairs) = subst (λ (ns : List NodeStart). AreStarts 0 ns (start_of nodes j pairs)) (sym (between_is nodes i j)) cut in
    subst (λ (n : ℕ). AreStarts 0 (between i j nodes) n) (sym (length-take-le (start_of nodes j pairs) pairs bounds.1)) parts

-- one of the nodes
pub shown-at : (k : ℕ) (nodes : List NodeStart) (pairs : List Pair) (d : RawNode) (e : NodeStart) → k < length nodes → get_or (shown_nodes nodes pairs) k d ≡ record { parent = (get_or nodes k e).parent; pairs = between (get_or nodes k e).values_from (start_of nodes (suc k) pairs) pairs }
shown-at k [] pairs d e h = absurd (omega (arith, h))
shown-at zero (node ∷ []) pairs d e h = ap (λ (ps : List Pair). record { parent = node.parent; pairs = ps }) (sym (between_to_end pairs node.values_from (length pairs) (omega arith)))
shown-at (suc k) (node ∷ []) pairs d e h = absurd (omega (arith, h))
shown-at zero (node ∷ next ∷ nodes) pairs d e h = refl
shown-at (suc k) (node ∷ next ∷ nodes) pairs d e h = shown-at k (next ∷ nodes) pairs d e (omega (arith, h))

-- the values of a node begin before those of the next one
pub start-order : (k from : ℕ) (nodes : List NodeStart) (pairs : List Pair) (e : NodeStart) → AreStarts from nodes (length pairs) → k < length nodes → (get_or nodes k e).values_from ≤ start_of nodes (suc k) pairs
start-order k from [] pairs e h there = absurd (omega (arith, there))
start-order zero from (node ∷ nodes) pairs e h there = (start-bounds node.values_from nodes 0 pairs h.1).0
start-order (suc k) from (node ∷ nodes) pairs e h there = start-order k node.values_from nodes pairs e h.1 (omega (arith, there))

-- ---- games

ends-le : (from : ℕ) (ends : List ℕ) (whole : ℕ) → AreEnds from ends whole → from ≤ whole
ends-le from [] whole h = h
ends-le from (end ∷ ends) whole h =
    let behind = ends-le end ends whole h.1 in omega (arith, h.0, behind)

pub ends-longer : (from : ℕ) (ends : List ℕ) (whole more : ℕ) → AreEnds from ends whole → whole ≤ more → AreEnds from ends more
ends-longer from [] whole more h longer = omega (arith, h, longer)
ends-longer from (end ∷ ends) whole more h longer = (h.0, ends-longer end ends whole more h.1 longer)

pub ends-more : (from : ℕ) (ends : List ℕ) (whole : ℕ) → AreEnds from ends whole → AreEnds from (ends ++ whole ∷ []) whole
ends-more from [] whole h = (h, omega arith)
ends-more from (end ∷ ends) whole h = (h.0, ends-more end ends whole h.1)

pub ends-to_last : (from : ℕ) (ends : List ℕ) (whole : ℕ) → AreEnds from ends whole → AreEnds from ends (last_end from ends)
ends-to_last from [] whole h = omega arith
ends-to_last from (end ∷ ends) whole h = (h.0, ends-to_last end ends whole h.1)

pub last_end-le : (from : ℕ) (ends : List ℕ) (whole : ℕ) → AreEnds from ends whole → last_end from ends ≤ whole
last_end-le from [] whole h = h
last_end-le from (end ∷ ends) whole h = last_end-le end ends whole h.1

pub last_end-more : (from : ℕ) (ends : List ℕ) (end : ℕ) → last_end from (ends ++ end ∷ []) ≡ end
last_end-more from [] end = refl
last_end-more from (first ∷ ends) end = last_end-more first ends end

last_end-taken : (from : ℕ) (ends : List ℕ) (k : ℕ) (d : ℕ) → k < length ends → get_or ends k d ≡ last_end from (take (suc k) ends)
last_end-taken from [] k d h = absurd (omega (arith, h))
last_end-taken from (end ∷ ends) zero d h = refl
last_end-taken from (end ∷ ends) (suc k) d h = last_end-taken end ends k d (omega (arith, h))

pub last_end-before : (ends : List ℕ) (n : ℕ) (d : ℕ) → (n ≡ 0 → ⊥) → n < length ends → get_or ends (n - 1) d ≡ last_end 0 (take n ends)
last_end-before ends zero d some h = absurd (some refl)
last_end-before ends (suc k) d some h =
    let before : k ≡ suc k - 1 = omega arith in
    subst (λ (j : ℕ). get_or ends j d ≡ last_end 0 (take (suc k) ends)) before (last_end-taken 0 ends k d (omega (arith, h)))

-- the bounds of one of the games
pub end-bounds : (from : ℕ) (ends : List ℕ) (k d whole : ℕ) → AreEnds from ends whole → k < length ends → (last_end from (take k ends) ≤ get_or ends k d) × (get_or ends k d ≤ whole)
end-bounds from [] k d whole h there = absurd (omega (arith, there))
end-bounds from (end ∷ ends) zero d whole h there = (h.0, ends-le end ends whole h.1)
end-bounds from (end ∷ ends) (suc k) d whole h there = end-bounds end ends k d whole h.1 (omega (arith, there))

pub length-games : (from : ℕ) (ends : List ℕ) (nodes : List RawNode) → length (games_behind from ends nodes) ≡ length ends
length-games from [] nodes = refl
length-games from (end ∷ ends) nodes = ap (λ n. suc n) (length-games end ends nodes)

-- games of two lists of nodes that agree as far as the games go
games-same : (from : ℕ) (ends : List ℕ) (one other : List RawNode) (whole : ℕ) → AreEnds from ends whole → ((i j : ℕ) → j ≤ whole → between i j one ≡ between i j other) → games_behind from ends one ≡ games_behind from ends other
games-same from [] one other whole h same = refl
games-same from (end ∷ ends) one other whole h same =
    ap₂ (λ (ns : List RawNode) (rest : List RawGame). record { nodes = ns } ∷ rest) (same from end (ends-le end ends whole h.1)) (games-same end ends one other whole h.1 same)

-- nodes more
pub games-longer : (from : ℕ) (ends : List ℕ) (nodes more : List RawNode) → AreEnds from ends (length nodes) → games_behind from ends (nodes ++ more) ≡ games_behind from ends nodes
games-longer from ends nodes more h = games-same from ends (nodes ++ more) nodes (length nodes) h (between-longer nodes more)

take-with_raw_pair : (n : ℕ) (nodes : List RawNode) (pair : Pair) → n < length nodes → take n (with_raw_pair nodes pair) ≡ take n nodes
take-with_raw_pair n [] pair h = absurd (omega (arith, h))
take-with_raw_pair zero (node ∷ []) pair h = refl
take-with_raw_pair (suc n) (node ∷ []) pair h = absurd (omega (arith, h))
take-with_raw_pair zero (node ∷ next ∷ nodes) pair h = refl
take-with_raw_pair (suc n) (node ∷ next ∷ nodes) pair h = ap (λ ns. node ∷ ns) (take-with_raw_pair n (next ∷ nodes) pair (omega (arith, h)))

pub drop-with_raw_pair : (n : ℕ) (nodes : List RawNode) (pair : Pair) → n < length nodes → drop n (with_raw_pair nodes pair) ≡ with_raw_pair (drop n nodes) pair
drop-with_raw_pair n [] pair h = absurd (omega (arith, h))
drop-with_raw_pair zero (node ∷ []) pair h = refl
drop-with_raw_pair (suc n) (node ∷ []) pair h = absurd (omega (arith, h))
drop-with_raw_pair zero (node ∷ next ∷ nodes) pair h = refl
drop-with_raw_pair (suc n) (node ∷ next ∷ nodes) pair h = drop-with_raw_pair n (next ∷ nodes) pair (omega (arith, h))

-- one value more of a node that belongs to none of the games
pub games-pair : (from : ℕ) (ends : List ℕ) (nodes : List RawNode) (pair : Pair) (whole : ℕ) → AreEnds from ends whole → whole < length nodes → games_behind from ends (with_raw_pair nodes pair) ≡ games_behind from ends nodes
games-pair from ends nodes pair whole h behind =
    games-same from ends (with_raw_pair nodes pair) nodes whole h
    (λ i j within. between_is (with_raw_pair nodes pair) i j ∙ ap (drop i) (take-with_raw_pair j nodes pair (omega (arith, within, behind))) ∙ sym (between_is nodes i j))

-- a game more: the nodes behind the last one
pub games-end : (from : ℕ) (ends : List ℕ) (nodes : List RawNode) (end : ℕ) → length nodes ≡ end → games_behind from (ends ++ end ∷ []) nodes ≡ games_behind from ends nodes ++ record { nodes = drop (last_end from ends) nodes } ∷ []
games-end from [] nodes end is = ap (λ (ns : List RawNode). record { nodes = ns } ∷ []) (between_to_end nodes from end (omega (arith, is)))
games-end from (first ∷ ends) nodes end is = ap (λ (rest : List RawGame). record { nodes = between from first nodes } ∷ rest) (games-end first ends nodes end is)

-- one of the games
pub game-at : (from : ℕ) (ends : List ℕ) (nodes : List RawNode) (k : ℕ) (d : RawGame) (e : ℕ) → k < length ends → get_or (games_behind from ends nodes) k d ≡ record { nodes = between (last_end from (take k ends)) (get_or ends k e) nodes }
game-at from [] nodes k d e h = absurd (omega (arith, h))
game-at from (end ∷ ends) nodes zero d e h = refl
game-at from (end ∷ ends) nodes (suc k) d e h = game-at end ends nodes k d e (omega (arith, h))

-- ---- games and collections that are shown

-- a game that shows these nodes
module _ (nodes : List NodeStart) (pairs : List Pair) (raw : RawGame) (shows : record { nodes = shown_nodes nodes pairs } ≡ raw) where
  pub game-has : (k : ℕ) → k < length raw.nodes → k < length nodes
  game-has k h =
      let counted = ap (λ (g : RawGame). length g.nodes) shows in
      omega (arith, counted, length-shown nodes pairs, h)

  pub game-node : (k j : ℕ) (e : NodeStart) (d : RawNode) (values : List Pair) → k < length nodes → j ≡ start_of nodes (k + 1) pairs → values ≡ between (get_or nodes k e).values_from j pairs → record { parent = (get_or nodes k e).parent; pairs = values } ≡ get_or raw.nodes k d
  game-node k j e d values h at is =
      let next : k + 1 ≡ suc k = omega arith in
      let cut : values ≡ between (get_or nodes k e).values_from (start_of nodes (suc k) pairs) pairs =
      is ∙ ap (λ (n : ℕ). between (get_or nodes k e).values_from n pairs) (at ∙ ap (λ (n : ℕ). start_of nodes n pairs) next) in
      ap (λ (ps : List Pair). record { parent = (get_or nodes k e).parent; pairs = ps }) cut
      ∙ sym (shown-at k nodes pairs d e h)
      ∙ ap (λ (g : RawGame). get_or g.nodes k d) shows

  pub game-order : (k : ℕ) (e : NodeStart) → AreStarts 0 nodes (length pairs) → k < length nodes → ((get_or nodes k e).values_from ≤ start_of nodes (k + 1) pairs) × (start_of nodes (k + 1) pairs ≤ length pairs)
  game-order k e starts h =
      let next : suc k ≡ k + 1 = omega arith in
      (subst (λ (n : ℕ). (get_or nodes k e).values_from ≤ start_of nodes n pairs) next (start-order k 0 nodes pairs e starts h), (start-bounds 0 nodes (k + 1) pairs starts).1)

-- a collection that is stored so
module _ (pairs : List Pair) (nodes : List NodeStart) (ends : List ℕ) (collection : Collection) (shows : shown_collection pairs nodes ends ≡ collection) where
  pub collection-has : (k : ℕ) → k < length collection.games → k < length ends
  collection-has k h =
      let counted = ap (λ (c : Collection). length c.games) shows in
      omega (arith, counted, length-games 0 ends (shown_nodes nodes pairs), h)

  pub collection-game : (k from end e : ℕ) (d : RawGame) (part : List NodeStart) (values : List Pair) → AreStarts 0 nodes (length pairs) → k < length ends → from ≡ last_end 0 (take k ends) → end ≡ get_or ends k e → part ≡ between from end nodes → values ≡ between 0 (start_of nodes end pairs) pairs → record { nodes = shown_nodes part values } ≡ get_or collection.games k d
  collection-game k from end e d part values starts h from_is end_is part_is values_is =
      let shown : shown_nodes part values ≡ between from end (shown_nodes nodes pairs) =
      ap₂ shown_nodes part_is (values_is ∙ between_from_start pairs (start_of nodes end pairs))
      ∙ shown-part from end nodes pairs starts in
      let here : between from end (shown_nodes nodes pairs) ≡ between (last_end 0 (take k ends)) (get_or ends k e) (shown_nodes nodes pairs) =
      ap₂ (λ (i j : ℕ). between i j (shown_nodes nodes pairs)) from_is end_is in
      ap (λ (ns : List RawNode). record { nodes = ns }) (shown ∙ here)
      ∙ sym (game-at 0 ends (shown_nodes nodes pairs) k d e h)
      ∙ ap (λ (c : Collection). get_or c.games k d) shows

  pub collection-part : (from end : ℕ) (part : List NodeStart) (values : List Pair) → AreStarts 0 nodes (length pairs) → part ≡ between from end nodes → values ≡ between 0 (start_of nodes end pairs) pairs → AreStarts 0 part (length values)
  collection-part from end part values starts part_is values_is =
      let cut : values ≡ take (start_of nodes end pairs) pairs = values_is ∙ between_from_start pairs (start_of nodes end pairs) in
      subst (λ (ns : List NodeStart). AreStarts 0 ns (length values)) (sym part_is)
      (subst (λ (ps : List Pair). AreStarts 0 (between from end nodes) (length ps)) (sym cut) (starts-part from end nodes pairs starts))
