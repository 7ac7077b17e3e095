-- What was read so far, stored flat, and how it grows.
use Rattle.std.proofs.Common.{◌≡◌, ℕ, ◌-◌, ◌<◌, ◌≤◌, List, [], ◌∷◌, ◌++◌, length, drop, Option, Some, Bool, true, false, sym, ap, ap₂, ◌∙◌, subst, arith, length-append, length-drop, append-nil}
use Rattle.std.proofs.lemmas.List.{drop-append-le, drop_all}
use Rattle.sgf_reader.specs.declared.collection.Pair.{Pair}
use Rattle.sgf_reader.specs.declared.collection.RawGame.{RawGame}
use Rattle.sgf_reader.specs.declared.collection.RawNode.{RawNode}
use Rattle.sgf_reader.specs.declared.flat.NodeStart.{NodeStart}
use Rattle.sgf_reader.specs.Flat.{AreEnds, last_end, shown_games, shown_nodes}
use Rattle.sgf_reader.specs.Reading.{View, IsFlatSoFar, with_raw_pair, with_raw_node}
use Rattle.sgf_reader.proofs.FlatLists.{drop-with_raw_pair, ends-longer, ends-more, ends-to_last, games-end, games-longer, games-pair, last_end-le, last_end-more, length-games, length-shown, shown-node, shown-pair, starts-longer, starts-node}

-- what is stored so
abbrev pub stored_view : List Pair → List NodeStart → List ℕ → ℕ → Bool → List (Option ℕ) → Option ℕ → View
stored_view pairs nodes ends first is_reading parents last = record {
  games = shown_games ends (shown_nodes nodes pairs);
  nodes = drop first (shown_nodes nodes pairs);
  is_reading = is_reading;
  parents = parents;
  last = last;
}

module _ {pairs : List Pair} {nodes : List NodeStart} {ends : List ℕ} {first : ℕ} {is_reading : Bool} (h : IsFlatSoFar pairs nodes ends first is_reading) where
  pub first-le : first ≤ length nodes
  first-le = omega (arith, h.first_is, last_end-le 0 ends (length nodes) h.flat.within)

  -- how many nodes the game has that has not ended
  pub nodes-open : (v : View) (parents : List (Option ℕ)) (last : Option ℕ) → stored_view pairs nodes ends first is_reading parents last ≡ v → length v.nodes ≡ length nodes - first
  nodes-open v parents last is =
      sym (ap (λ (w : View). length w.nodes) is) ∙ length-drop first (shown_nodes nodes pairs) ∙ ap (λ (n : ℕ). n - first) (length-shown nodes pairs)

  -- ---- a value

  pub pair-flat : (pair : Pair) → IsFlatSoFar (pairs ++ pair ∷ []) nodes ends first is_reading
  pair-flat pair = record {
    flat = record { starts = starts-longer 0 nodes _ _ h.flat.starts (omega (arith, length-append pairs (pair ∷ []))); within = h.flat.within };
    first_is = h.first_is;
    begun = h.begun;
  }

  pub pair-view : (v : View) (pair : Pair) (parents : List (Option ℕ)) (last : Option ℕ) → stored_view pairs nodes ends first is_reading parents last ≡ v → v.is_reading ≡ true →
      stored_view (pairs ++ pair ∷ []) nodes ends first is_reading parents last ≡ record { games = v.games; nodes = with_raw_pair v.nodes pair; is_reading = v.is_reading; parents = v.parents; last = v.last }
  pair-view v pair parents last is reading =
      let before = shown_nodes nodes pairs in
      let begun = h.begun (ap (λ (w : View). w.is_reading) is ∙ reading) in
      let some : first < length (shown_nodes nodes pairs) = omega (arith, begun, length-shown nodes pairs) in
      let grown = shown-pair 0 nodes pairs pair h.flat.starts in
      let games = ap (shown_games ends) grown ∙ games-pair 0 ends before pair (last_end 0 ends) (ends-to_last 0 ends _ h.flat.within) (omega (arith, some, h.first_is)) in
      let left = ap (drop first) grown ∙ drop-with_raw_pair first before pair some in
      ap₂ (λ (gs : List RawGame) (ns : List RawNode). record { games = gs; nodes = ns; is_reading = is_reading; parents = parents; last = last }) games left
      ∙ ap (λ (w : View). record { games = w.games; nodes = with_raw_pair w.nodes pair; is_reading = w.is_reading; parents = w.parents; last = w.last }) is

  -- ---- a node

  pub node-flat : (node : NodeStart) → node.values_from ≡ length pairs → IsFlatSoFar pairs (nodes ++ node ∷ []) ends first true
  node-flat node at =
      let counted = length-append nodes (node ∷ []) in
      record {
        flat = record { starts = starts-node 0 nodes node _ h.flat.starts at; within = ends-longer 0 ends _ _ h.flat.within (omega (arith, counted)) };
        first_is = h.first_is;
        begun = λ is. omega (arith, counted, first-le);
      }

  pub node-view : (v : View) (node : NodeStart) (parents : List (Option ℕ)) → stored_view pairs nodes ends first is_reading parents node.parent ≡ v → node.values_from ≡ length pairs →
      stored_view pairs (nodes ++ node ∷ []) ends first true parents (Some (length nodes - first)) ≡ with_raw_node v
  node-view v node parents is at =
      let before = shown_nodes nodes pairs in
      let new : RawNode = record { parent = node.parent; pairs = [] } in
      let grown = ap (λ (ps : List Pair). shown_nodes (nodes ++ node ∷ []) ps) (sym (append-nil pairs)) ∙ shown-node 0 nodes node pairs [] h.flat.starts at in
      let counted = length-shown nodes pairs in
      let games = ap (shown_games ends) grown ∙ games-longer 0 ends before (new ∷ []) (ends-longer 0 ends _ _ h.flat.within (omega (arith, counted))) in
      let left = ap (drop first) grown ∙ drop-append-le first before (new ∷ []) (omega (arith, first-le, counted)) in
      let number : length nodes - first ≡ length (drop first before) = omega (arith, length-drop first before, counted) in
      ap₂ (λ (gs : List RawGame) (ns : List RawNode). record { games = gs; nodes = ns; is_reading = true; parents = parents; last = Some (length nodes - first) }) games left
      ∙ ap (λ (n : ℕ). record { games = shown_games ends before; nodes = drop first before ++ new ∷ []; is_reading = true; parents = parents; last = Some n }) number
      ∙ ap with_raw_node is

  -- ---- a game

  pub game-flat : (count : ℕ) → count ≡ length nodes → IsFlatSoFar pairs nodes (ends ++ count ∷ []) count false
  game-flat count is = record {
    flat = record { starts = h.flat.starts; within = subst (λ (n : ℕ). AreEnds 0 (ends ++ n ∷ []) (length nodes)) (sym is) (ends-more 0 ends _ h.flat.within) };
    first_is = sym (last_end-more 0 ends count);
    begun = λ no. cc;
  }

  pub game-view : (v : View) (count : ℕ) (parents : List (Option ℕ)) (last : Option ℕ) → stored_view pairs nodes ends first is_reading parents last ≡ v → count ≡ length nodes →
      stored_view pairs nodes (ends ++ count ∷ []) count false parents last ≡ record { games = v.games ++ record { nodes = v.nodes } ∷ []; nodes = []; is_reading = false; parents = v.parents; last = v.last }
  game-view v count parents last is at =
      let before = shown_nodes nodes pairs in
      let counted = length-shown nodes pairs in
      let games = games-end 0 ends before count (omega (arith, at, counted)) ∙ ap (λ (n : ℕ). shown_games ends before ++ record { nodes = drop n before } ∷ []) (sym h.first_is) in
      let left = drop_all count before (omega (arith, at, counted)) in
      ap₂ (λ (gs : List RawGame) (ns : List RawNode). record { games = gs; nodes = ns; is_reading = false; parents = parents; last = last }) games left
      ∙ ap (λ (w : View). record { games = w.games ++ record { nodes = w.nodes } ∷ []; nodes = []; is_reading = false; parents = w.parents; last = w.last }) is

-- how many games have ended
pub games-ended : (pairs : List Pair) (nodes : List NodeStart) (ends : List ℕ) (first : ℕ) (is_reading : Bool) (parents : List (Option ℕ)) (last : Option ℕ) (v : View) → stored_view pairs nodes ends first is_reading parents last ≡ v → length v.games ≡ length ends
games-ended pairs nodes ends first is_reading parents last v is =
    sym (ap (λ (w : View). length w.games) is) ∙ length-games 0 ends (shown_nodes nodes pairs)
