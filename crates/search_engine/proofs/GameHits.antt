-- The hits of one game.
use Rattle.std.proofs.Common.{ℕ, List}
use Rattle.game_tree.specs.Tree.{Tree}
use Rattle.capture_board.specs.Deltas.{Deltas}
use Rattle.pattern_images.specs.declared.hit.Hit.{Hit}
use Rattle.pattern_images.specs.declared.query.Query.{Query}
use Rattle.info_filter.specs.declared.filter.Filter.{Filter}
use Rattle.pattern_images.specs.Placements.{ArePlacements, Placement}
use Rattle.pattern_occurrences.specs.Occurrences.{occurrences_in}
use Rattle.node_position.specs.Games.{AreNodeChanges}
use Rattle.search_engine.specs.Hits.{AreGameHits, AreHitsIn, AreHitsOf, AsksFor}
use Rattle.search_engine.specs.Searching.{AreHitsAdded}

module _ (query : Query) (number : ℕ) (game : Tree) (changes : Deltas) (of : AreNodeChanges game changes) (placements : List Placement) (are : ArePlacements query game.shape placements) (old new : List Hit) where
  -- those of all its occurrences
  pub AreHitsIn-added : AreHitsAdded (AreHitsOf query number game changes placements (occurrences_in changes placements)) old new → AreHitsAdded (AreHitsIn query number game) old new
  AreHitsIn-added added = record {
    more = added.more;
    added = added.added;
    are_hits = record { changes = changes; are_changes = of; placements = placements; are_placements = are; are_hits = added.are_hits };
  }

module _ (query : Query) (filter : Filter) (number : ℕ) (game : Tree) (old : List Hit) where
  -- those in a game that is asked for
  pub AreGameHits-asked : (new : List Hit) → AsksFor query filter game → AreHitsAdded (AreHitsIn query number game) old new → AreHitsAdded (AreGameHits query filter number game) old new
  AreGameHits-asked new asks added = record { more = added.more; added = added.added; are_hits = AreGameHits.asked asks added.are_hits }
