-- Definitions of the private functions that keep watched searches.
use Rattle.std.specs.Prelude.{◌≡◌, ◌+◌, ◌<◌, ◌≤◌, ℕ, List, ◌∷◌, ◌++◌, length, slice_index_or, take, drop}
use Rattle.info_filter.specs.declared.filter.Filter.{Filter}
use Rattle.node_position.specs.Games.{Game}
use Rattle.pattern_images.specs.declared.query.Query.{Query}
use Rattle.search_engine.specs.Hits.{AreHits}
use Rattle.session_core.specs.SessionState.{Watched}
use Rattle.session_core.specs.Watches.{AreNewHits, IsFree, covering}

-- what a finder looks for
pub record Asked : Type 0 where
  pub query : Query
  pub filter : Filter

-- the watched search at this place is the first one of the name
pub record IsWatchAt (name : List ℕ) (watches : List Watched) (at : ℕ) : Type 0 where
  pub within : at < length watches
  pub is_named : (d : Watched) → (slice_index_or watches at d).name ≡ name
  pub is_first : IsFree name (take at watches)

-- A watched search goes on to these games: it covers them, its hits are those in them, and from this
-- place on they are those in the games behind the ones that it covered before.
pub record IsAdvanced (games : List Game) (before after : Watched) (first : ℕ) : Type 0 where
  pub after_is : after ≡ covering before games after.hits
  pub are_hits : AreHits before.query before.filter games after.hits
  pub place : first ≤ length after.hits
  pub are_new : AreNewHits before games (drop first after.hits)

-- The watched search at this place goes on so, and the others stay as they are.
pub record IsAdvancedAt (games : List Game) (at : ℕ) (before after : List Watched) (first : ℕ)
    : Type 0 where
  pub watch : Watched
  pub there : (d : Watched) → slice_index_or before at d ≡ watch
  pub now : Watched
  pub advanced : IsAdvanced games watch now first
  pub others : after ≡ take at before ++ now ∷ drop (at + 1) before
