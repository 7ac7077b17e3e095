-- Hits of games in parts.
use Rattle.std.proofs.Common.{◌≡◌, ℕ, ◌+◌, List, [], ◌∷◌, ◌++◌, length, length-append, append_assoc, sym, subst, arith}
use Rattle.std.proofs.lemmas.List.{append-nil}
use Rattle.pattern_images.specs.declared.hit.Hit.{Hit}
use Rattle.pattern_images.specs.declared.query.Query.{Query}
use Rattle.info_filter.specs.declared.filter.Filter.{Filter}
use Rattle.node_position.specs.Games.{Game}
use Rattle.search_engine.specs.Hits.{AreGameHits, AreHitsFrom}

module _ (first : ℕ) (query : Query) (filter : Filter) (games : List Game) (hits : List Hit) (one : AreHitsFrom first query filter games hits) where
  -- the hits of games, and of more of them
  pub AreHitsFrom-append : (more : List Game) (others : List Hit) → AreHitsFrom (first + length games) query filter more others → AreHitsFrom first query filter (games ++ more) (hits ++ others)
  AreHitsFrom-append _ _ AreHitsFrom.nothing =
      subst (λ gs. AreHitsFrom first query filter gs (hits ++ [])) (sym (append-nil games))
      (subst (λ hs. AreHitsFrom first query filter games hs) (sym (append-nil hits)) one)
  AreHitsFrom-append _ _ (AreHitsFrom.one_more {games = before} {hits = found} game more so_far last) =
      let numbered : first + length games + length before ≡ first + length (games ++ before) = rw length-append (omega arith) in
      subst (λ gs. AreHitsFrom first query filter gs (hits ++ (found ++ more))) (append_assoc games before (game ∷ []))
      (subst (λ hs. AreHitsFrom first query filter ((games ++ before) ++ game ∷ []) hs) (append_assoc hits found more)
      (AreHitsFrom.one_more game more (AreHitsFrom-append before found so_far) (subst (λ k. AreGameHits query filter k game.tree more) numbered last)))
