-- Each collection that was read has trees and no fault of its values, or a first fault.
use Prim.Native.Nat.{zero}
use Rattle.std.proofs.Common.{◌≡◌, ◌⊎◌, ◌≤◌, ◌<◌, ◌+◌, ℕ, suc, List, [], ◌∷◌, Option, Some, None, IfSome, refl, sym, ap, subst, arith, length, get_or, take, drop, inl, inr, codes}
use Rattle.std.proofs.Math.Seq.{split_at}
use Rattle.std.proofs.lemmas.Bool.{cases_lt}
use Rattle.kb_geometry.specs.declared.shape.Shape.{Shape}
use Rattle.sgf_reader.specs.declared.collection.Collection.{Collection}
use Rattle.sgf_reader.specs.declared.collection.RawGame.{RawGame}
use Rattle.sgf_reader.specs.declared.collection.RawNode.{RawNode}
use Rattle.sgf_reader.specs.declared.fault.FaultKind.{FaultKind}
use Rattle.sgf_reader.specs.declared.fault.SgfFault.{SgfFault}
use Rattle.sgf_reader.specs.Faults.{IsRead}
use Rattle.game_tree.specs.Built.{Built, nothing_built, tree_of, with_node}
use Rattle.game_tree.specs.GameFaults.{HasGameFault, IsFirstGameFault}
use Rattle.game_tree.specs.NodeValues.{with_setups}
use Rattle.game_tree.specs.Property.{root_pairs}
use Rattle.game_tree.specs.RawGames.{HasBuilt, IsNodeBad, IsOfText, IsRootBad, by_game, by_value}
use Rattle.game_tree.specs.Roots.{IsGameFault, IsSizeFault, first_in}
use Rattle.game_tree.specs.Tree.{Tree}
use Rattle.game_tree.specs.Trees.{AreTreesOf, IsTreeOf}
use Rattle.game_tree.specs.ValueFaults.{HasValueFault, IsBoard, IsBoardOf, IsFirstValueFault}
use Rattle.game_tree.proofs.BuiltGames.{HasBuilt-more, next-at}
use Rattle.game_tree.proofs.NodeChoices.{NodeIsSettled, board-or-fault, game-there, information-there, node-settled, second-there}
use Rattle.game_tree.proofs.Parts.{Contains-at}
use Rattle.game_tree.proofs.WholeCollections.{HasBuiltGames, HasBuiltGames-more, HasBuiltGames-start, built-all, game-bad, of_game}
use Rattle.game_tree.proofs.WholeGames.{all-clean, no-board, others-bad, root-bad, root-built, root-next, root-there, root-values, tree-built}

-- the one of two faults that comes first; the other may be none
record Chosen (fault : SgfFault) (other : Option SgfFault) : Type 0 where
  result : SgfFault
  one : (result ≡ fault) ⊎ (other ≡ Some result)
  least : result.at ≤ fault.at
  least_other : IfSome other (λ (o : SgfFault). result.at ≤ o.at)

choose : (fault : SgfFault) (other : Option SgfFault) → Chosen fault other
choose fault None = record { result = fault; one = inl refl; least = omega arith; least_other = tt }
choose fault (Some other) = elim (cases_lt other.at fault.at) [
  | inl less ↦ record { result = other; one = inr refl; least = omega arith; least_other = omega arith }
  | inr more ↦ record { result = fault; one = inl refl; least = omega arith; least_other = more }
]

-- within a list the element doesn't depend on the one that would stand in for it
same_item : {A : Type 0} (xs : List A) (i : ℕ) (d e : A) → i < length xs → get_or xs i d ≡ get_or xs i e
same_item [] i d e below = absurd (omega arith)
same_item (x ∷ xs) zero d e below = refl
same_item (x ∷ xs) (suc i) d e below = same_item xs i d e (omega arith)

-- ---- the nodes of a game

module _ (text : List ℕ) (raw : RawGame) (known : IsOfText text raw) (shape : Shape) (root : RawNode) where
  abbrev NodesAreSettled : Type 0
  NodesAreSettled = ((b : Built) × HasBuilt text raw shape (length raw.nodes) b) ⊎ ((f : SgfFault) × IsNodeBad text raw shape f)

  node-at : (k : ℕ) (b : Built) → k < length raw.nodes → HasBuilt text raw shape k b → NodeIsSettled text shape (get_or raw.nodes k root).pairs
  node-at k b below h =
      let next = next-at text raw shape k root b known below h in
      node-settled text shape (length text) (get_or raw.nodes k root).pairs next.ascending next.inside

  nodes-from : (more k : ℕ) (b : Built) → k + more ≡ length raw.nodes → HasBuilt text raw shape k b → NodesAreSettled
  nodes-from zero k b all h = inl (b, subst (λ n. HasBuilt text raw shape n b) (omega arith) h)
  nodes-from (suc more) k b all h =
      let below : k < length raw.nodes = omega arith in
      elim (node-at k b below h) [
        | inl read ↦
            let after = with_node (with_setups b read.0) (get_or raw.nodes k root).parent read.1 in
            nodes-from more (k + 1) after (omega arith) (HasBuilt-more text raw shape k root b after below h (record { setups = read.0; played = read.1; read = read.2; added = refl }))
        | inr bad ↦ inr (
          record { kind = bad.0; at = bad.1 },
          record {
            done = take k raw.nodes;
            node = get_or raw.nodes k root;
            rest = drop (suc k) raw.nodes;
            split = split_at raw.nodes k root below;
            clean = h.clean;
            first = bad.2;
          },
        )
      ]

-- ---- a game

module _ (text : List ℕ) (raw : RawGame) (known : IsOfText text raw) where
  -- the game has a tree and no fault, or a first fault
  abbrev pub GameIsSettled : Type 0
  GameIsSettled = ((tree : Tree) × IsTreeOf text raw tree × ((of : FaultKind) (at : ℕ) → ¬ HasGameFault text raw of at)) ⊎ ((of : FaultKind) × (at : ℕ) × IsFirstGameFault text raw of at)

  module _ (root : RawNode) (others : List RawNode) (is : raw.nodes ≡ root ∷ others) where
    in_root : (game : Option SgfFault) → IsGameFault text root.pairs game → IsGameFault text (root_pairs raw) game
    in_root game go = subst (λ ps. IsGameFault text ps game) (sym (root-values text raw known root others is)) go

    -- a game without a board
    boardless : (size : SgfFault) → IsSizeFault text (first_in text root.pairs (codes "SZ")) size → GameIsSettled
    boardless size bad =
        let game = game-there text root.pairs in
        let second = second-there text root.pairs in
        let between = choose size game.0 in
        let last = choose between.result second.0 in
        inr (last.result.kind, last.result.at, no-board text raw known root others is game.0 second.0 size between.result last.result game.1 second.1 bad between.one between.least between.least_other last.one last.least last.least_other)

    module _ (shape : Shape) (board : IsBoard text raw shape) where
      root_is-bad : (game : Option SgfFault) (f : SgfFault) → IsGameFault text root.pairs game → IsRootBad text shape root game f → GameIsSettled
      root_is-bad game f go bad = inr (f.kind, f.at, root-bad text raw known root others is shape board game f (in_root game go) bad)

      -- all nodes below the root
      below-root : IsGameFault text root.pairs None → (b : Built) → HasBuilt text raw shape 1 b → GameIsSettled
      below-root go b h =
          let some = root-there text raw known in
          let long = ap length is in
          elim (nodes-from text raw known shape root (length others) 1 b (omega (arith, long)) h) [
            | inr bad ↦ inr (bad.0.kind, bad.0.at, others-bad text raw known root others is shape board None bad.0 (in_root None go) refl bad.1)
            | inl all ↦
                let info = information-there text root.pairs in
                inl (tree_of all.0 info.0, tree-built text raw known root others is shape board all.0 info.0 (tree_of all.0 info.0) all.1 info.1 refl, all-clean text raw known root others is shape board None all.0 (in_root None go) refl all.1)
          ]

      root-settled : (game : Option SgfFault) → IsGameFault text root.pairs game → NodeIsSettled text shape root.pairs → GameIsSettled
      root-settled game go (inr (of, at, first)) =
          let fault : SgfFault = record { kind = of; at = at } in
          let chosen = choose fault game in
          root_is-bad game chosen.result go (by_value first chosen.one chosen.least chosen.least_other)
      root-settled (Some g) go (inl (setups, played, read)) = root_is-bad (Some g) g go (by_game read.no_fault refl)
      root-settled None go (inl (setups, played, read)) =
          let after = with_node (with_setups (nothing_built shape) setups) root.parent played in
          below-root go after (root-built text raw known root others is shape after (record { setups = setups; played = played; read = read; added = refl }))

      on-board : GameIsSettled
      on-board =
          let game = game-there text root.pairs in
          let next = root-next text raw known root others is shape in
          root-settled game.0 game.1 (node-settled text shape (length text) root.pairs next.ascending next.inside)

    with-root : GameIsSettled
    with-root = elim (board-or-fault text (first_in text root.pairs (codes "SZ"))) [
      | inr bad ↦ boardless bad.0 bad.1
      | inl board ↦ on-board board.0 (subst (λ ps. IsBoardOf text (first_in text ps (codes "SZ")) board.0) (sym (root-values text raw known root others is)) board.1)
    ]

  by-nodes : (nodes : List RawNode) → raw.nodes ≡ nodes → GameIsSettled
  by-nodes [] is = let none : length raw.nodes ≡ 0 = ap length is in absurd (omega (arith, root-there text raw known, none))
  by-nodes (root ∷ others) is = with-root root others is

  pub game-settled : GameIsSettled
  game-settled = by-nodes raw.nodes refl

-- ---- the collection

module _ (text : List ℕ) (collection : Collection) (read : IsRead text collection) where
  -- the collection has trees and no fault of its values, or a first fault
  abbrev IsSettled : Type 0
  IsSettled = ((trees : List Tree) × AreTreesOf text collection trees × ((of : FaultKind) (at : ℕ) → ¬ HasValueFault text collection of at)) ⊎ ((of : FaultKind) × (at : ℕ) × IsFirstValueFault text collection of at)

  games-from : (more i : ℕ) (trees : List Tree) → i + more ≡ length collection.games → HasBuiltGames text collection i trees → (d : RawGame) → IsSettled
  games-from zero i trees all h d =
      let done = built-all text collection read i trees (omega arith) h in
      inl (trees, done.0, done.1)
  games-from (suc more) i trees all h d =
      let below : i < length collection.games = omega arith in
      let raw = get_or collection.games i d in
      elim (game-settled text raw (of_game text collection read raw (Contains-at collection.games i d below))) [
        | inl built ↦ games-from more (i + 1) _ (omega arith) (HasBuiltGames-more text collection read i raw trees built.0 below (same_item collection.games i d raw below) h built.1 built.2) d
        | inr bad ↦ inr (bad.0, bad.1, game-bad text collection read i raw trees bad.0 bad.1 below (same_item collection.games i d raw below) h bad.2)
      ]

pub trees-or-fault : (text : List ℕ) (collection : Collection) → IsRead text collection → ((trees : List Tree) × AreTreesOf text collection trees × ((of : FaultKind) (at : ℕ) → ¬ HasValueFault text collection of at)) ⊎ ((of : FaultKind) × (at : ℕ) × IsFirstValueFault text collection of at)
trees-or-fault text collection read = games-from text collection read (length collection.games) 0 [] (omega arith) (HasBuiltGames-start text collection read) (record { nodes = [] })
