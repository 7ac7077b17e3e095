-- A flat collection that is made of lists in lists, and the other way.
use Rattle.std.proofs.Common.{◌≡◌, ℕ, ◌+◌, ◌<◌, ◌≤◌, List, [], ◌∷◌, ◌++◌, length, take, drop, get_or, refl, sym, ap, ap₂, ◌∙◌, subst, arith, length-append, append_assoc, append-nil, Option}
use Rattle.std.proofs.lemmas.List.{drop_at, take_all}
use Rattle.std.proofs.lemmas.Grind.{take_at_read}
use Rattle.sgf_reader.specs.declared.collection.Collection.{Collection}
use Rattle.sgf_reader.specs.declared.collection.Pair.{Pair}
use Rattle.sgf_reader.specs.declared.collection.RawGame.{RawGame}
use Rattle.sgf_reader.specs.declared.collection.RawNode.{RawNode}
use Rattle.sgf_reader.specs.declared.flat.NodeStart.{NodeStart}
use Rattle.sgf_reader.specs.Flat.{AreEnds, AreStarts, IsFlat, last_end, shown_collection, shown_games, shown_nodes}
use Rattle.sgf_reader.proofs.FlatLists.{ends-longer, ends-more, games-end, games-longer, last_end-more, length-shown, shown-node, starts-longer, starts-node}

-- the first items of a list, with the next one
pub taken-more : {X : Type 0} (xs : List X) (i : ℕ) (x : X) → i < length xs → x ≡ get_or xs i x → take i xs ++ x ∷ [] ≡ take (i + 1) xs
taken-more xs i x there is = ap (λ y. take i xs ++ y ∷ []) is ∙ sym (take_at_read xs i x there).1

-- the first nodes of a game, with the next one, by its parts
pub node-copied : (nodes all : List RawNode) (k : ℕ) (node : RawNode) (parent : Option ℕ) (pairs : List Pair) → nodes ≡ take k all → k < length all → node ≡ get_or all k node → parent ≡ node.parent → pairs ≡ node.pairs → nodes ++ record { parent = parent; pairs = pairs } ∷ [] ≡ take (k + 1) all
node-copied nodes all k node parent pairs so_far there is parent_is pairs_is =
    ap₂ (λ (p : Option ℕ) (ps : List Pair). nodes ++ record { parent = p; pairs = ps } ∷ []) parent_is pairs_is
    ∙ ap (λ ns. ns ++ node ∷ []) so_far
    ∙ taken-more all k node there is

-- ---- the nodes of a game, added to those of others

-- so many nodes of a game were added
pub record HasAdded (before : List RawNode) (more : List RawNode) (k : ℕ) (nodes : List NodeStart) (pairs : List Pair) : Type 0 where
  pub starts : AreStarts 0 nodes (length pairs)
  pub shown : shown_nodes nodes pairs ≡ before ++ take k more

pub HasAdded-start : (nodes : List NodeStart) (pairs : List Pair) (more : List RawNode) → AreStarts 0 nodes (length pairs) → HasAdded (shown_nodes nodes pairs) more 0 nodes pairs
HasAdded-start nodes pairs more h = record { starts = h; shown = sym (append-nil (shown_nodes nodes pairs)) }

pub HasAdded-more : (before more : List RawNode) (k : ℕ) (nodes : List NodeStart) (pairs : List Pair) (node : RawNode) (start : NodeStart) → HasAdded before more k nodes pairs → k < length more → node ≡ get_or more k node → start.parent ≡ node.parent → start.values_from ≡ length pairs → HasAdded before more (k + 1) (nodes ++ start ∷ []) (pairs ++ node.pairs)
HasAdded-more before more k nodes pairs node start h there is parent at = record {
  starts = starts-longer 0 (nodes ++ start ∷ []) _ _ (starts-node 0 nodes start _ h.starts at) (omega (arith, length-append pairs node.pairs));
  shown =
      shown-node 0 nodes start pairs node.pairs h.starts at
      ∙ ap (λ ns. ns ++ record { parent = start.parent; pairs = node.pairs } ∷ []) h.shown
      ∙ ap (λ (p : Option ℕ). before ++ take k more ++ record { parent = p; pairs = node.pairs } ∷ []) parent
      ∙ append_assoc before (take k more) (node ∷ [])
      ∙ ap (λ ns. before ++ ns) (taken-more more k node there is);
}

pub HasAdded-all : (before more : List RawNode) (k : ℕ) (nodes : List NodeStart) (pairs : List Pair) → HasAdded before more k nodes pairs → length more ≤ k → shown_nodes nodes pairs ≡ before ++ more
HasAdded-all before more k nodes pairs h all = h.shown ∙ ap (λ ns. before ++ ns) (take_all k more all)

-- ---- the games of a collection

-- so many games were added
pub record HasStored (games : List RawGame) (k : ℕ) (pairs : List Pair) (nodes : List NodeStart) (ends : List ℕ) : Type 0 where
  pub flat : IsFlat pairs nodes ends
  pub whole : last_end 0 ends ≡ length nodes
  pub shown : shown_games ends (shown_nodes nodes pairs) ≡ take k games

pub HasStored-start : (games : List RawGame) (pairs : List Pair) (nodes : List NodeStart) (ends : List ℕ) → pairs ≡ [] → nodes ≡ [] → ends ≡ [] → HasStored games 0 pairs nodes ends
HasStored-start games [] [] [] p n e = record { flat = record { starts = omega arith; within = omega arith }; whole = refl; shown = refl }
HasStored-start games (x ∷ pairs) nodes ends p n e = cc
HasStored-start games [] (x ∷ nodes) ends p n e = cc
HasStored-start games [] [] (x ∷ ends) p n e = cc

pub HasStored-more : (games : List RawGame) (k : ℕ) (pairs values : List Pair) (nodes all : List NodeStart) (ends : List ℕ) (game : RawGame) (end : ℕ) → HasStored games k pairs nodes ends → k < length games → game ≡ get_or games k game → AreStarts 0 all (length values) → shown_nodes all values ≡ shown_nodes nodes pairs ++ game.nodes → end ≡ length all → HasStored games (k + 1) values all (ends ++ end ∷ [])
HasStored-more games k pairs values nodes all ends game end h there is starts shown at =
    let before = shown_nodes nodes pairs in
    let was = length-shown nodes pairs in
    let now = length-shown all values in
    let grown = length-append before game.nodes in
    let sizes = ap (λ (ns : List RawNode). length ns) shown in
    let longer : length nodes ≤ length all = omega (arith, was, now, grown, sizes) in
    let ends_are : AreEnds 0 (ends ++ end ∷ []) (length all) = subst (λ (n : ℕ). AreEnds 0 (ends ++ n ∷ []) (length all)) (sym at) (ends-more 0 ends _ (ends-longer 0 ends _ _ h.flat.within longer)) in
    let more : shown_games (ends ++ end ∷ []) (before ++ game.nodes) ≡ shown_games ends (before ++ game.nodes) ++ record { nodes = drop (last_end 0 ends) (before ++ game.nodes) } ∷ [] =
    games-end 0 ends (before ++ game.nodes) end (omega (arith, now, sizes, at)) in
    let last : drop (last_end 0 ends) (before ++ game.nodes) ≡ game.nodes = drop_at before game.nodes (last_end 0 ends) (omega (arith, was, h.whole)) in
    let same : shown_games ends (before ++ game.nodes) ≡ shown_games ends before = games-longer 0 ends before game.nodes (ends-longer 0 ends _ _ h.flat.within (omega (arith, was))) in
    record {
      flat = record { starts = starts; within = ends_are };
      whole = last_end-more 0 ends end ∙ at;
      shown =
          ap (shown_games (ends ++ end ∷ [])) shown
          ∙ more
          ∙ ap (λ (ns : List RawNode). shown_games ends (before ++ game.nodes) ++ record { nodes = ns } ∷ []) last
          ∙ ap (λ (gs : List RawGame). gs ++ game ∷ []) (same ∙ h.shown)
          ∙ taken-more games k game there is;
    }

pub HasStored-all : (collection : Collection) (k : ℕ) (pairs : List Pair) (nodes : List NodeStart) (ends : List ℕ) → HasStored collection.games k pairs nodes ends → length collection.games ≤ k → shown_collection pairs nodes ends ≡ collection
HasStored-all collection k pairs nodes ends h all = ap (λ (gs : List RawGame). record { games = gs }) (h.shown ∙ take_all k collection.games all)
