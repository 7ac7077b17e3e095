-- The hits of games are those of exactly the triples that a search finds, in order, and no other list of hits is.
use Rattle.std.proofs.Common.{◌≡◌, inl, inr, ℕ, ◌<◌, List, [], ◌∷◌, ◌++◌, length, get_or, refl, sym, ◌∙◌, subst, zero-add, arith}
use Rattle.std.specs.Prelude.{All}
use Rattle.core.specs.List.{AllZip}
use Rattle.std.proofs.lemmas.List.{ext_get_or}
use Rattle.game_tree.specs.Tree.{IsTree}
use Rattle.capture_board.specs.Deltas.{Deltas}
use Rattle.node_position.specs.Games.{Game}
use Rattle.node_position.specs.Positions.{AreDeltasOf}
use Rattle.node_position.proofs.OneChange.{changes-unique}
use Rattle.node_position.proofs.OnePosition.{positions-unique}
use Rattle.pattern_images.specs.declared.hit.Hit.{Hit}
use Rattle.pattern_images.specs.declared.query.Query.{Query}
use Rattle.pattern_images.proofs.OneList.{before_opposed}
use Rattle.info_filter.specs.declared.filter.Filter.{Filter}
use Rattle.search_engine.specs.Hits.{AreGameHits, AreHits, AreHitsFrom, GoesOn}
use Rattle.search_engine.specs.Numbered.{IsNumbered}
use Rattle.search_engine.specs.Triples.{AreHitsOfAllTriples, AreHitsOfTriples, IsHitOfTriple, IsTripleBefore, TellsOf, Triple}
use Rattle.search_engine.proofs.HitTriples.{found_there, game-triples, game_of, zip-append, zip-at, zip-length, zip-weaker}
use Rattle.search_engine.proofs.HitsExist.{hits-found}
use Rattle.search_engine.proofs.NumberedLists.{AreThose, numbered-kept, numbered-last, numbered-one, those-more, those-none, those-same}
use Rattle.search_engine.proofs.OneListOfHits.{last_of_all, same_next, same_place}

abbrev are_trees : List Game → Type 0
are_trees games = All (λ (g : Game). IsTree g.tree) games

module _ (query : Query) (filter : Filter) where
  abbrev those : List Game → List Triple → Type 0
  those = AreThose game_of (found_there query filter) IsTripleBefore

  abbrev told_in : List Game → Hit → Triple → Type 0
  told_in games hit t = IsHitOfTriple games t hit

  record Listed (games : List Game) (hits : List Hit) : Type 0 where
    triples : List Triple
    are : those games triples
    told : AllZip (told_in games) hits triples

  listed : (games : List Game) (hits : List Hit) → are_trees games → AreHitsFrom 0 query filter games hits → Listed games hits
  listed _ _ trees AreHitsFrom.nothing = record {
    triples = [];
    are = those-none game_of (found_there query filter) IsTripleBefore;
    told = tt;
  }
  listed _ _ trees (AreHitsFrom.one_more {games = gs} {hits = hs} game more so_far last) =
      let split = last_of_all (λ (g : Game). IsTree g.tree) gs game trees in
      let before = listed gs hs split.0 so_far in
      let here = game-triples query filter (length gs) game split.1 more (subst (λ k. AreGameHits query filter k game.tree more) (zero-add (length gs)) last) in
      let now = gs ++ game ∷ [] in
      record {
        triples = before.triples ++ here.triples;
        are = those-more game_of (found_there query filter) IsTripleBefore (λ a b lt. inl lt) gs before.triples before.are game here.triples here.are;
        told = zip-append (told_in now) hs before.triples more here.triples
            (zip-weaker (told_in gs) (told_in now) (λ hit t is. (is.0, numbered-kept gs game t.game is.0 is.1, is.2)) hs before.triples before.told)
            (zip-weaker (λ (hit : Hit) (t : Triple). (t.game ≡ length gs) × TellsOf game.tree t hit) (told_in now)
            (λ hit t is. (game, subst (λ n. IsNumbered now n game) (sym is.0) (numbered-last gs game), is.1)) more here.triples here.told);
      }

  pub all-triples : (games : List Game) (hits : List Hit) → are_trees games → AreHits query filter games hits → AreHitsOfAllTriples query filter games hits
  all-triples games hits trees are =
      let l = listed games hits trees are in
      record {
        triples = l.triples;
        exactly = l.are.exactly;
        ordered = l.are.ordered;
        of_triples = record {
          same_length = zip-length (told_in games) hits l.triples l.told;
          each = λ k t h lt. zip-at (told_in games) hits l.triples k h t l.told (omega (arith, lt, zip-length (told_in games) hits l.triples l.told));
        };
      }

  -- ---- no other list

  opposed : (a b : Triple) → IsTripleBefore a b → IsTripleBefore b a → ⊥
  opposed a b (inl game) (inl game') = omega arith
  opposed a b (inl game) (inr (same, _)) = omega arith
  opposed a b (inr (same, _)) (inl game) = omega arith
  opposed a b (inr (same, inl node)) (inr (same', inl node')) = omega arith
  opposed a b (inr (same, inl node)) (inr (same', inr (here, _))) = omega arith
  opposed a b (inr (same, inr (here, _))) (inr (same', inl node)) = omega arith
  opposed a b (inr (same, inr (here, one))) (inr (same', inr (here', other))) = before_opposed a.placement b.placement one other

  module _ (games : List Game) (trees : are_trees games) where
    is-tree : (n : ℕ) (game : Game) → IsNumbered games n game → IsTree game.tree
    is-tree n game is = subst (λ (g : Game). IsTree g.tree) is.1 (trees n game is.0)

    same-told : (game : Game) → IsTree game.tree → (t : Triple) (a b : Hit) → TellsOf game.tree t a → TellsOf game.tree t b → a ≡ b
    same-told game is_tree t a b one other =
        let positions = positions-unique game.tree one.are_changes.positions other.are_changes.positions is_tree one.are_changes.are_positions other.are_changes.are_positions in
        let lead = subst (λ ps. AreDeltasOf game.tree ps one.changes) positions one.are_changes.lead in
        let changes = changes-unique game.tree other.are_changes.positions one.changes other.changes is_tree one.are_changes.net other.are_changes.net lead other.are_changes.lead in
        let next = same_next game.tree other.changes t.placement t.node a.next b.next (subst (λ (c : Deltas). GoesOn game.tree c t.placement t.node a.next) changes one.next) other.next in
        let place = same_place t.placement a.place b.place one.place other.place in
        λ i. record {
          game = (one.game ∙ sym other.game) i;
          node = (one.node ∙ sym other.node) i;
          place = place i;
          moves = (one.moves ∙ sym other.moves) i;
          outcome = (one.outcome ∙ sym other.outcome) i;
          next = next i;
        }

    same-hit : (t : Triple) (a b : Hit) → IsHitOfTriple games t a → IsHitOfTriple games t b → a ≡ b
    same-hit t a b one other =
        let same = numbered-one games t.game other.0 one.0 other.1 one.1 in
        same-told one.0 (is-tree t.game one.0 one.1) t a b one.2 (subst (λ (g : Game). TellsOf g.tree t b) same other.2)

    same-hits : (triples : List Triple) (a b : List Hit) → AreHitsOfTriples games triples a → AreHitsOfTriples games triples b → (t : Triple) (h : Hit) → a ≡ b
    same-hits triples a b one other t h =
        ext_get_or h a b (one.same_length ∙ sym other.same_length)
        (λ k lt. let within : k < length triples = omega (arith, lt, one.same_length) in same-hit (get_or triples k t) (get_or a k h) (get_or b k h) (one.each k t h within) (other.each k t h within))

    told-same : (triples : List Triple) (a b : List Hit) → AreHitsOfTriples games triples a → AreHitsOfTriples games triples b → a ≡ b
    told-same triples [] [] one other = refl
    told-same triples [] (h ∷ b) one other = absurd (omega (arith, one.same_length, other.same_length))
    told-same [] (h ∷ a) b one other = absurd (omega (arith, one.same_length))
    told-same (t ∷ triples) (h ∷ a) b one other = same-hits (t ∷ triples) (h ∷ a) b one other t h

    pub are-hits : (hits : List Hit) → AreHitsOfAllTriples query filter games hits → AreHits query filter games hits
    are-hits hits have =
        let found = hits-found 0 query filter games trees in
        let other = all-triples games found.0 trees found.1 in
        let same = those-same game_of (found_there query filter) IsTripleBefore opposed games have.triples other.triples (record { exactly = have.exactly; ordered = have.ordered }) (record { exactly = other.exactly; ordered = other.ordered }) in
        let told = subst (λ (ts : List Triple). AreHitsOfTriples games ts hits) same have.of_triples in
        subst (AreHits query filter games) (sym (told-same other.triples hits found.0 told other.of_triples)) found.1
