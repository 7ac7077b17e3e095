-- Which games a standing query fits that covers some.
use Rattle.std.proofs.Common.{◌≡◌, ◌∙◌, ◌++◌, ◌∷◌, ℕ, List, [], ap, arith, drop, length, length-append, subst, sym, take}
use Rattle.std.proofs.lemmas.List.{append-nil, drop_all, take-append-le, take_all}
use Rattle.info_filter.specs.declared.filter.Filter.{Filter}
use Rattle.node_position.specs.Games.{Game}
use Rattle.pattern_images.specs.declared.query.Query.{Query}
use Rattle.version_publisher.specs.Contents.{items_in}
use Rattle.version_publisher.proofs.ReadyStates.{joined-append}
use Rattle.segment_store.specs.Nodes.{nodes_of}
use Rattle.search_engine.specs.Hits.{AreHits, AreHitsFrom}
use Rattle.standing_query.specs.StandingState.{StandingState}
use Rattle.search_cases.specs.Watching.{Covers, Fits}

-- the games of one part
pub in_one : (games : List Game) (parts : List (List Game)) → parts ≡ games ∷ [] → items_in parts ≡ games
in_one games parts is = ap items_in is ∙ append-nil games

-- behind all games there is no node
pub none_behind : (n : ℕ) (games : List Game) → n ≡ length games → nodes_of (drop n games) ≡ 0
none_behind n games counted = ap nodes_of (drop_all n games (omega (arith, counted)))

module _ (query : Query) (filter : Filter) (standing : StandingState) where
  -- a new one covers no games
  pub covers-none : standing ≡ record { number = 0; games = 0; hits = [] } → Covers query filter [] standing
  covers-none new = record {
    counted = ap (λ (s : StandingState). s.games) new;
    are_hits = subst (λ (s : StandingState). AreHits query filter [] s.hits) (sym new) AreHitsFrom.nothing;
  }

  -- games that begin with those that it covers
  pub fits-longer : (games more longer : List Game) → longer ≡ games ++ more → Covers query filter games standing → Fits query filter longer standing
  fits-longer games more longer is covers =
      let first : take standing.games longer ≡ games = ap (take standing.games) is ∙ take-append-le standing.games games more (omega (arith, covers.counted)) ∙ take_all standing.games games (omega (arith, covers.counted)) in
      record {
        within = omega (arith, covers.counted, ap length is, length-append games more);
        are_hits = subst (λ gs. AreHits query filter gs standing.hits) (sym first) covers.are_hits;
      }

  -- those alone
  pub fits-same : (games : List Game) → Covers query filter games standing → Fits query filter games standing
  fits-same games covers = fits-longer games [] games (sym (append-nil games)) covers

  -- in no part
  pub fits-nothing : (parts : List (List Game)) → parts ≡ [] → Covers query filter [] standing → Fits query filter (items_in parts) standing
  fits-nothing parts none covers = subst (λ (ps : List (List Game)). Fits query filter (items_in ps) standing) (sym none) (fits-same [] covers)

  -- those of one part more
  pub fits-pushed : (parts pushed : List (List Game)) (part : List Game) → pushed ≡ parts ++ part ∷ [] → Covers query filter (items_in parts) standing → Fits query filter (items_in pushed) standing
  fits-pushed parts pushed part is covers = fits-longer (items_in parts) (items_in (part ∷ [])) (items_in pushed) (ap items_in is ∙ joined-append parts (part ∷ [])) covers

  -- those and more as one part
  pub fits-joined : (games more joined : List Game) (parts : List (List Game)) → joined ≡ games ++ more → parts ≡ joined ∷ [] → Covers query filter games standing → Fits query filter (items_in parts) standing
  fits-joined games more joined parts is one covers = fits-longer games more (items_in parts) (in_one joined parts one ∙ is) covers
