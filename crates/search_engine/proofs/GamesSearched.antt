-- Searching one game after another.
use Rattle.std.proofs.Common.{◌≡◌, ℕ, zero, suc, ◌+◌, ◌<◌, ◌≤◌, List, [], ◌∷◌, ◌++◌, Some, append_assoc, add-one, length, refl, take, sym, ap, ◌∙◌, subst, arith}
use Rattle.std.specs.List.{slice_get}
use Rattle.std.proofs.lemmas.List.{length-take-le, take_all, take_more}
use Rattle.std.proofs.lemmas.Option.{get_or_from_slice_get}
use Rattle.node_position.specs.Games.{Game}
use Rattle.pattern_images.specs.declared.hit.Hit.{Hit}
use Rattle.pattern_images.specs.declared.query.Query.{Query}
use Rattle.info_filter.specs.declared.filter.Filter.{Filter}
use Rattle.info_filter.specs.Filter.{Accepts}
use Rattle.search_engine.specs.Hits.{AreGameHits, AreHitsFrom}
use Rattle.search_engine.specs.Searching.{AreHitsAdded}
use Rattle.search_engine.proofs.AddedHits.{AreHitsAdded-none}
use Rattle.search_engine.proofs.HitParts.{AreHitsFrom-append}

-- the game at a place of a list
pub some_there : (games : List Game) (k : ℕ) → k < length games → (game : Game) × (slice_get games k ≡ Some game)
some_there [] k lt = absurd (omega (arith, lt))
some_there (game ∷ games) zero lt = (game, refl)
some_there (game ∷ games) (suc k) lt = some_there games k (omega (arith, lt))

-- one game stands at a place of a list
pub same_game : (games : List Game) (k : ℕ) (one other : Game) → slice_get games k ≡ Some one → slice_get games k ≡ Some other → one ≡ other
same_game games k one other at too = sym (get_or_from_slice_get games k one one at) ∙ get_or_from_slice_get games k other one too

module _ (first : ℕ) (query : Query) (filter : Filter) (old : List Hit) where
  abbrev these : List Game → List Hit → List Hit → Type 0
  these games = AreHitsAdded (AreHitsFrom first query filter games)

  -- no game yet
  pub AreHitsFrom-none : these [] old old
  AreHitsFrom-none = AreHitsAdded-none (AreHitsFrom first query filter []) old AreHitsFrom.nothing

  -- games, and more of them
  pub AreHitsAdded-parts : (games more : List Game) (mid new : List Hit) (next : ℕ) → next ≡ first + length games → these games old mid → AreHitsAdded (AreHitsFrom next query filter more) mid new → these (games ++ more) old new
  AreHitsAdded-parts games more mid new next number one other = record {
    more = one.more ++ other.more;
    added = other.added ∙ ap (λ hits. hits ++ other.more) one.added ∙ append_assoc old one.more other.more;
    are_hits = AreHitsFrom-append first query filter games one.more one.are_hits more other.more (subst (λ n. AreHitsFrom n query filter more other.more) number other.are_hits);
  }

  one_more : (games : List Game) (game : Game) (mid new : List Hit) (number : ℕ) → number ≡ first + length games → these games old mid → AreHitsAdded (AreGameHits query filter number game.tree) mid new → these (games ++ game ∷ []) old new
  one_more games game mid new number is one other = record {
    more = one.more ++ other.more;
    added = other.added ∙ ap (λ hits. hits ++ other.more) one.added ∙ append_assoc old one.more other.more;
    are_hits = AreHitsFrom.one_more game other.more one.are_hits (subst (λ n. AreGameHits query filter n game.tree other.more) is other.are_hits);
  }

  -- one game more of a list
  pub AreHitsAdded-game : (games : List Game) (k : ℕ) (game : Game) (mid new : List Hit) (number : ℕ) → k < length games → slice_get games k ≡ Some game → number ≡ first + k → these (take k games) old mid → AreHitsAdded (AreGameHits query filter number game.tree) mid new → these (take (k + 1) games) old new
  AreHitsAdded-game games k game mid new number lt at is so_far added =
      let counted : length (take k games) ≡ k = length-take-le k games (omega (arith, lt)) in
      let next : take (k + 1) games ≡ take k games ++ game ∷ [] = take_more games k game lt ∙ ap (λ (g : Game). take k games ++ g ∷ []) (get_or_from_slice_get games k game game at) in
      subst (λ gs. these gs old new) (sym next)
      (one_more (take k games) game mid new number (is ∙ ap (λ n. first + n) (sym counted)) so_far added)

  -- games that the filter refuses have no hits
  refused_to : (games : List Game) → ((g : ℕ) (game : Game) → slice_get games g ≡ Some game → ¬ Accepts filter game.tree.info) → (k : ℕ) → k ≤ length games → AreHitsFrom first query filter (take k games) []
  refused_to games refused zero le = AreHitsFrom.nothing
  refused_to games refused (suc k) le =
      let (game, at) = some_there games k (omega (arith, le)) in
      let next : take (suc k) games ≡ take k games ++ game ∷ [] = ap (λ n. take n games) (sym (add-one k)) ∙ take_more games k game (omega (arith, le)) ∙ ap (λ (g : Game). take k games ++ g ∷ []) (get_or_from_slice_get games k game game at) in
      subst (λ gs. AreHitsFrom first query filter gs []) (sym next)
      (AreHitsFrom.one_more game [] (refused_to games refused k (omega (arith, le))) (AreGameHits.not_asked (λ asks. refused k game at asks.1)))

  pub AreHitsFrom-refused : (games : List Game) → ((g : ℕ) (game : Game) → slice_get games g ≡ Some game → ¬ Accepts filter game.tree.info) → these games old old
  AreHitsFrom-refused games refused =
      AreHitsAdded-none (AreHitsFrom first query filter games) old (subst (λ gs. AreHitsFrom first query filter gs []) (take_all (length games) games (omega arith)) (refused_to games refused (length games) (omega arith)))
