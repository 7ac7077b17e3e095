use Rattle.std.proofs.Common.{◌≡◌, ℕ, ◌+◌, inl, inr, List, Option, ap, subst, ◌∙◌, arith}
use Rattle.std.proofs.lemmas.Bool.{cases_lt}
use Rattle.kb_geometry.specs.declared.shape.Shape.{Shape}
use Rattle.kb_geometry.specs.declared.stone.Cell.{Cell}
use Rattle.kb_geometry.specs.Board.{number_of}
use Rattle.kb_geometry.specs.Symmetry.{point_of}
use Rattle.pattern_images.specs.declared.cell.PatternCell.{PatternCell}
use Rattle.pattern_images.specs.Grid.{cell_in}
use Rattle.pattern_images.specs.Holds.{Allows, number_under}
use Rattle.pattern_images.specs.ImageList.{placement_at}
use Rattle.continuation_table.specs.Rebuilding.{known_cell}
use Rattle.continuation_table.proofs.places.row_holds.Goals as goal

-- the cell that was asked and the one that is known, as the clause names them
allowed_here : (asked own : PatternCell) (cell : Cell) (known : List (Option Cell)) (point under : ℕ) →
    Allows asked cell → asked ≡ own → cell ≡ known_cell known point → point ≡ under → Allows own (known_cell known under)
allowed_here asked own cell known point under allowed asked_is cell_is point_is =
    subst (λ (c : PatternCell). Allows c (known_cell known under)) asked_is
    (subst (Allows asked) (cell_is ∙ ap (known_cell known) point_is) allowed)

pub loop-dx-preserved : goal.loop-dx-preserved
loop-dx-preserved c = λ dx lt.
    let placement = placement_at c.args.images.now.placements c.args.i in
    let shape : Shape = c.args.images.now.shape in
    let now : ℕ = c.loop-dx.dx in
    elim (cases_lt dx now) [
      | inl earlier ↦ c.loop-dx.invariant dx earlier
      | inr last ↦
          let here : now ≡ dx = omega arith in
          let point : c.number-point.result ≡ number_under shape placement now c.args.dy =
          c.number-point.ensures.value
          ∙ ap (λ (s : Shape). number_of s (point_of (c.place-place.result.x + now) (c.place-place.result.y + c.args.dy)))
          c.shape-shape.ensures.value
          ∙ ap (λ x. number_of shape (point_of (x + now) (c.place-place.result.y + c.args.dy))) c.place-place.ensures.value.column
          ∙ ap (λ y. number_of shape (point_of (placement.x + now) (y + c.args.dy))) c.place-place.ensures.value.row in
          subst (λ k. Allows (cell_in placement.grid k c.args.dy)
          (known_cell c.args.known.now.cells (number_under shape placement k c.args.dy))) here
          (allowed_here c.cell.result (cell_in placement.grid now c.args.dy) c.cell-in-loop-dx.result
          c.args.known.now.cells c.number-point.result (number_under shape placement now c.args.dy)
          (c.allows.ensures.0 c.if-not-allows.false) c.cell.ensures c.cell-in-loop-dx.ensures point)
    ]
