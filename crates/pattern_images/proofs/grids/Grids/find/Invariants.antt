use Rattle.std.proofs.Common.{◌≡◌, ℕ, ◌<◌}
use Rattle.kb_geometry.specs.Board.{cols_of, rows_of}
use Rattle.pattern_images.specs.Grid.{Grid}
use Rattle.pattern_images.specs.ImageList.{grid_at}
use Rattle.pattern_images.proofs.grids.Grids.find.Given as goal

-- no rectangle so far is the one that is looked for
abbrev pub invariant-loop-number : goal.invariant-loop-number
invariant-loop-number l = (k : ℕ) → k < l.number → ◌≡◌ {A = Grid} (grid_at l.self k) (record { cols = cols_of l.size; rows = rows_of l.size; cells = l.cells }) → ⊥
