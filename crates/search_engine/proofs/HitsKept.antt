-- A game with a hit is kept.
use Rattle.std.proofs.Common.{◌≡◌, ℕ, List, [], ◌∷◌, length, refl, sym, ap, subst, arith}
use Rattle.std.specs.Prelude.{Contains}
use Rattle.game_tree.specs.Tree.{Tree}
use Rattle.capture_board.specs.Deltas.{Deltas}
use Rattle.pattern_images.specs.declared.hit.Hit.{Hit}
use Rattle.pattern_images.specs.declared.query.Query.{Query}
use Rattle.pattern_images.specs.Placements.{Placement}
use Rattle.info_filter.specs.declared.filter.Filter.{Filter}
use Rattle.kb_geometry.proofs.Lists.{Contains-first, push_not_nil}
use Rattle.pattern_occurrences.specs.declared.occurrence.Occurrence.{Occurrence}
use Rattle.pattern_occurrences.specs.Occurrences.{occurrences_in}
use Rattle.pattern_occurrences.proofs.OccurrenceLaw.{occurrences-are}
use Rattle.candidate_sieve.specs.Kept.{IsKept}
use Rattle.candidate_sieve.proofs.OccurrencesKept.{occurs-kept}
use Rattle.search_engine.specs.Hits.{AreGameHits, AreHitsIn, AreHitsOf}
use Rattle.search_engine.specs.KeptGames.{IsKeptGame}

module _ (query : Query) (number : ℕ) (tree : Tree) where
  module _ (changes : Deltas) (placements : List Placement) where
    -- without an occurrence there is no hit
    none_hit : (occurrences : List Occurrence) (hits : List Hit) → AreHitsOf query number tree changes placements occurrences hits → occurrences ≡ [] → hits ≡ []
    none_hit _ _ AreHitsOf.nothing none = refl
    none_hit _ _ (AreHitsOf.hit {occurrences} {hits} o h before looks is) none = absurd (push_not_nil occurrences o (sym none))
    none_hit _ _ (AreHitsOf.left_out {occurrences} {hits} o before not) none = absurd (push_not_nil occurrences o (sym none))

    some_occurs : (occurrences : List Occurrence) → occurrences ≡ occurrences_in changes placements → (hits : List Hit) → AreHitsOf query number tree changes placements occurrences hits → (hit : Hit) → Contains hits hit → IsKept changes placements
    some_occurs [] is hits are hit (k, lt, at) = absurd (omega (arith, lt, ap length (none_hit [] hits are refl)))
    some_occurs (o ∷ os) is hits are hit there =
        occurs-kept changes placements o ((occurrences-are changes placements o).0 (subst (λ (all : List Occurrence). Contains all o) is (Contains-first o os)))

  in_game : (hits : List Hit) → AreHitsIn query number tree hits → (hit : Hit) → Contains hits hit → IsKeptGame query tree
  in_game hits are hit there = record {
    changes = are.changes;
    are_changes = are.are_changes;
    placements = are.placements;
    are_placements = are.are_placements;
    kept = some_occurs are.changes are.placements (occurrences_in are.changes are.placements) refl hits are.are_hits hit there;
  }

  pub hit-kept : (filter : Filter) (hits : List Hit) → AreGameHits query filter number tree hits → (hit : Hit) → Contains hits hit → IsKeptGame query tree
  hit-kept filter hits (AreGameHits.asked asks are) hit there = in_game hits are hit there
  hit-kept filter [] (AreGameHits.not_asked not) hit (k, lt, at) = absurd (omega (arith, lt))
