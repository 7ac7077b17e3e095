-- The occurrences in a game, one after another.
use Rattle.std.proofs.Common.{◌≡◌, ℕ, ◌<◌, List, length, get_or, sym, subst, arith}
use Rattle.game_tree.specs.Tree as tree
use Rattle.capture_board.specs.Deltas as deltas
use Rattle.node_position.specs.Games.{AreNodeChanges}
use Rattle.pattern_images.specs.Placements.{Placement}
use Rattle.pattern_occurrences.specs.declared.occurrence.Occurrence.{Occurrence}
use Rattle.pattern_occurrences.specs.Occurrences.{occurrences_in}
use Rattle.search_engine.proofs.WhereFound.{IsThere, occurrences_are_there}

module _ (game : tree.Tree) (changes : deltas.Deltas) (of : AreNodeChanges game changes) (placements : List Placement) (occurrences : List Occurrence) (are : occurrences ≡ occurrences_in changes placements) (k : ℕ) (o : Occurrence) (lt : k < length occurrences) (at : o ≡ get_or occurrences k o) where
  -- an occurrence is there: its node, its placement, and the placement holds at the node
  pub is_there : IsThere changes placements o
  is_there =
      let below : k < length (occurrences_in changes placements) = subst (λ (os : List Occurrence). k < length os) are lt in
      let here = occurrences_are_there changes placements k o below in
      subst (λ (p : Occurrence). IsThere changes placements p) (sym at) (subst (λ (os : List Occurrence). IsThere changes placements (get_or os k o)) (sym are) here)

  -- its node is one of the tree
  pub node_in_tree : o.node < tree.node_count game
  node_in_tree = omega (arith, is_there.node, of.lead.each_node)
