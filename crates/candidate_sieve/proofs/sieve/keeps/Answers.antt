use Rattle.std.proofs.Common.{◌∙◌, sym, subst}
use Rattle.std.proofs.lemmas.Bool.{false≢true}
use Rattle.kb_geometry.specs.declared.shape.Shape.{Shape}
use Rattle.pattern_images.specs.ImageList.{IsPlacedOn, placement_at}
use Rattle.candidate_sieve.specs.Candidates.{MeetsCells}
use Rattle.candidate_sieve.proofs.CellsTold.{meets-were, were-meets}
use Rattle.candidate_sieve.proofs.sieve.keeps.Goals as goal

pub returns-then-meets_cells : goal.returns-then-meets_cells
returns-then-meets_cells c deltas some same sets numbers =
    let placement = placement_at c.args.images.now.placements c.args.i in
    let corners = c.meets_corners.ensures deltas same numbers in (
      λ t. record {
        cells = meets-were deltas c.args.ever.now sets placement some (subst (λ (s : Shape). MeetsCells s c.args.ever.now placement) (sym same) (c.meets_cells.ensures.0 c.if-meets_cells.true));
        corners = corners.0 t;
      },
      λ kept. corners.1 kept.corners,
    )

pub returns-else-meets_cells : goal.returns-else-meets_cells
returns-else-meets_cells c deltas some same sets numbers =
    let placement = placement_at c.args.images.now.placements c.args.i in (
      λ t. absurd (false≢true (sym c.if-meets_cells.false ∙ t)),
      λ kept. c.meets_cells.ensures.1 (subst (λ (s : Shape). MeetsCells s c.args.ever.now placement) same (were-meets deltas c.args.ever.now sets placement (subst (λ (s : Shape). IsPlacedOn s placement) (sym same) c.requires.placed) kept.cells)),
    )
