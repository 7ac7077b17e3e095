-- A standing query, and the games that it covers.
use Rattle.std.specs.Prelude.{◌≡◌, ◌≤◌, List, length, take}
use Rattle.info_filter.specs.declared.filter.Filter.{Filter}
use Rattle.node_position.specs.Games.{Game}
use Rattle.pattern_images.specs.declared.query.Query.{Query}
use Rattle.search_engine.specs.Hits.{AreHits}
use Rattle.standing_query.specs.StandingState.{StandingState}

-- what a finder looks for
pub record Asked : Type 0 where
  pub query : Query
  pub filter : Filter

-- It covers these games: its hits are those in them.
pub record Covers (query : Query) (filter : Filter) (games : List Game) (standing : StandingState)
    : Type 0 where
  pub counted : standing.games ≡ length games
  pub are_hits : AreHits query filter games standing.hits

-- It fits these games: it covers the first ones of them, as many as it says.
pub record Fits (query : Query) (filter : Filter) (games : List Game) (standing : StandingState)
    : Type 0 where
  pub within : standing.games ≤ length games
  pub are_hits : AreHits query filter (take standing.games games) standing.hits
