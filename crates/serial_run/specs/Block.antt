-- Definitions of the private functions that answer a block.
use Rattle.std.specs.Prelude.{◌≡◌, ℕ, ◌<◌, List, length, slice_index_or}
use Rattle.std.specs.Borrow.{Bor}
use Rattle.node_position.specs.Games.{Game}
use Rattle.version_publisher.specs.declared.state.VersionState.{VersionState}
use Rattle.query_script.specs.declared.statement.PlacedSearch.{PlacedSearch}
use Rattle.search_engine.specs.declared.several.Asked.{Asked}

-- the search of a script is asked for over a version
pub record IsAskedFor (placed : PlacedSearch) (version : Bor (VersionState Game))
    (asked : Asked) : Type 0 where
  pub version_is : asked.version.now ≡ version.now
  pub query_is : asked.query.now ≡ placed.query
  pub filter_is : asked.filter.now ≡ placed.filter

-- each search of a block is asked for over the version in its place
pub record AreAskedFor (searches : List PlacedSearch) (versions : List (Bor (VersionState Game)))
    (asked : List Asked) : Type 0 where
  pub as_many : length asked ≡ length searches
  pub each : (i : ℕ) (p : PlacedSearch) (v : Bor (VersionState Game)) (a : Asked) →
      i < length asked → IsAskedFor (slice_index_or searches i p) (slice_index_or versions i v)
      (slice_index_or asked i a)
