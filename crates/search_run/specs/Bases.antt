-- A base that is empty yet, as contracts see it.
use Rattle.std.specs.Prelude.{◌≡◌, List, [], All, false, length}
use Rattle.node_position.specs.Games.{Game}
use Rattle.version_publisher.specs.Contents.{IsNewSearcher}
use Rattle.version_publisher.specs.declared.state.PublisherState.{PublisherState}
use Rattle.version_publisher.specs.declared.state.SearcherState.{SearcherState}

-- A base: its publisher and its searchers.
pub record BaseState : Type 0 where
  pub publisher : PublisherState Game
  pub searchers : List (SearcherState Game)

-- Nothing is published or pending, and nine searchers of the same opening have seen nothing.
pub record IsNewBase (base : BaseState) : Type 0 where
  pub log : base.publisher.log ≡ []
  pub parts : base.publisher.parts ≡ []
  pub pending : base.publisher.pending ≡ []
  pub idle : base.publisher.has_pending ≡ false
  pub nine : length base.searchers ≡ 9
  pub new : All (IsNewSearcher base.publisher.opening) base.searchers
