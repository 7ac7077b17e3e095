use Rattle.std.proofs.Common.{◌≡◌, ℕ, inl, inr, subst, arith}
use Rattle.std.proofs.lemmas.Bool.{cases_lt}
use Rattle.pattern_images.specs.Grid.{cell_in}
use Rattle.pattern_images.specs.Holds.{Allows, number_under}
use Rattle.pattern_images.specs.ImageList.{placement_at}
use Rattle.continuation_table.specs.Rebuilding.{known_cell}
use Rattle.continuation_table.proofs.places.holds_at.Goals as goal

pub loop-dy-preserved : goal.loop-dy-preserved
loop-dy-preserved c = λ dy dx lt in_cols.
    let placement = placement_at c.args.images.now.placements c.args.i in
    elim (cases_lt dy c.loop-dy.dy) [
      | inl earlier ↦ c.loop-dy.invariant dy dx earlier in_cols
      | inr last ↦
          let here : c.loop-dy.dy ≡ dy = omega arith in
          subst (λ (k : ℕ). Allows (cell_in placement.grid dx k) (known_cell c.at-known.result.cells (number_under c.args.images.now.shape placement dx k))) here
          (c.row_holds.ensures.0 c.if-not-row_holds.false dx in_cols)
    ]
