-- Watched searches: which one has a name, what their statements make of them, and whether they fit the
-- games of a version.
use Rattle.std.specs.Prelude.{◌≡◌, ◌≢◌, ℕ, ◌≤◌, List, [], ◌∷◌, ◌++◌, length, take, drop, slice_get, All, Option, Some, None}
use Rattle.std.specs.Option.{option_map_or}
use Rattle.info_filter.specs.declared.filter.Filter.{Filter}
use Rattle.node_position.specs.Games.{Game}
use Rattle.pattern_images.specs.declared.hit.Hit.{Hit}
use Rattle.pattern_images.specs.declared.query.Query.{Query}
use Rattle.query_script.specs.declared.statement.Statement.{Statement}
use Rattle.query_script.specs.declared.statement.Statement.TheVariants as statement
use Rattle.search_engine.specs.Hits.{AreHits, AreHitsFrom}
use Rattle.session_core.specs.SessionState.{SessionState, Watched, fed_with}
use Rattle.session_core.specs.declared.watches.NewHits.{NewHits}

-- none of them has this name
abbrev pub IsFree : List ℕ → List Watched → Type 0
IsFree name watches = All (λ (w : Watched). w.name ≢ name) watches

-- The first of them that has this name, those before it, and those behind it.
pub record IsWatch (name : List ℕ) (watches : List Watched) : Type 0 where
  pub earlier : List Watched
  pub watch : Watched
  pub later : List Watched
  pub split : watches ≡ earlier ++ watch ∷ later
  pub is_named : watch.name ≡ name
  pub is_first : IsFree name earlier

-- a search under a name that covers these games, with its hits
abbrev pub watch_over : List ℕ → Query → Filter → List Game → List Hit → Watched
watch_over name query filter games hits = record {
  name = name;
  query = query;
  filter = filter;
  covered = length games;
  hits = hits;
}

-- the same search, when it covers these games
abbrev pub covering : Watched → List Game → List Hit → Watched
covering watch games hits = watch_over watch.name watch.query watch.filter games hits

-- the hits of a watched search in the games behind those that it covers
abbrev pub AreNewHits : Watched → List Game → List Hit → Type 0
AreNewHits watch games hits =
    AreHitsFrom watch.covered watch.query watch.filter (drop watch.covered games) hits

-- The watched searches when a search was added under a name that was free.
pub record IsWatchAdded (name : List ℕ) (query : Query) (filter : Filter) (games : List Game)
    (before after : List Watched) (hits : List Hit) : Type 0 where
  pub free : IsFree name before
  pub are_hits : AreHits query filter games hits
  pub added : after ≡ before ++ watch_over name query filter games hits ∷ []

-- The watched searches when the one of a name was advanced to these games: the others stay as they
-- are. It lists all its hits, and the new ones among them.
pub record IsWatchAdvanced (name : List ℕ) (games : List Game) (before after : List Watched)
    (hits new : List Hit) : Type 0 where
  pub found : IsWatch name before
  pub are_hits : AreHits found.watch.query found.watch.filter games hits
  pub are_new : AreNewHits found.watch games new
  pub others : after ≡ found.earlier ++ covering found.watch games hits ∷ found.later

-- the watched searches that a statement leaves over these games, where it changes them, and the hits
-- that are new by it
abbrev pub ChangesWatches : List Game → List Watched → Statement → List Watched → List Hit → Type 0
ChangesWatches games before (statement.Watch name query filter) after new =
    IsWatchAdded name query filter games before after new
ChangesWatches games before (statement.Watched name) after new =
    (hits : List Hit) × IsWatchAdvanced name games before after hits new
ChangesWatches games before other after new = ⊥

-- A watched search fits games: it covers no more than these, and its hits are those in the first ones,
-- as many as it covers.
pub record IsWatchOf (games : List Game) (watch : Watched) : Type 0 where
  pub covered : watch.covered ≤ length games
  pub are_hits : AreHits watch.query watch.filter (take watch.covered games) watch.hits

-- each watched search of a session fits these games
abbrev pub WatchesFit : List Game → SessionState → Type 0
WatchesFit games session = All (IsWatchOf games) session.watches

-- the hits that are new: those of the watched search at the place, from the first new one on, or none
-- where no search stands there
abbrev pub new_hits : List Watched → NewHits → List Hit
new_hits watches new =
    option_map_or (λ (w : Watched). drop new.first w.hits) (slice_get watches new.at) []

-- the same when each box was given the hits that are new, if some are
abbrev pub fed_by : Option NewHits → SessionState → SessionState
fed_by None session = session
fed_by (Some new) session = fed_with (new_hits session.watches new) session
