use Rattle.std.specs.Prelude.{All}
use Rattle.pattern_images.specs.ImageList.{grid_at}
use Rattle.ready_images.specs.Pairs.{IsPairIn}
use Rattle.ready_images.proofs.pairs.add_pairs_of.Given as goal

abbrev pub invariant-loop-stone : goal.invariant-loop-stone
invariant-loop-stone l = All (IsPairIn l.images.shape (grid_at l.images.grids l.class)) l.pairs.items
