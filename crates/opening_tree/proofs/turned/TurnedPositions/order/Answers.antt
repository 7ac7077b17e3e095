use Rattle.std.proofs.Common.{◌∙◌, ap, refl, subst, sym}
use Rattle.kb_geometry.specs.Board.{point_count}
use Rattle.opening_tree.specs.Canonical.{IsBefore}
use Rattle.opening_tree.specs.Frames.{image_in}
use Rattle.opening_tree.specs.Packing.{cells_of}
use Rattle.opening_tree.proofs.PackedCells.{before-words}
use Rattle.opening_tree.proofs.WordOrder.{lists_equal, lists_greater}
use Rattle.opening_tree.proofs.turned.TurnedPositions.order.Goals as goal

pub returns : goal.returns
returns c =
    let points = point_count c.args.self.now.shape in
    let one = c.words.result.now in
    let other = c.words-2.result.now in
    record {
      less = λ e.
          subst (λ p. IsBefore p (image_in c.args.self.now.images c.args.other)) c.words.ensures.value
          (subst (λ p. IsBefore (cells_of (point_count c.args.self.now.shape) c.words.result.now) p) c.words-2.ensures.value
          (before-words points points one other refl c.words.ensures.cells c.words-2.ensures.cells (sym c.cmp.ensures ∙ e)));
      equal = λ e. sym c.words.ensures.value ∙ ap (cells_of points) (lists_equal one other (sym c.cmp.ensures ∙ e)) ∙ c.words-2.ensures.value;
      greater = λ e.
          subst (λ p. IsBefore p (image_in c.args.self.now.images c.args.one)) c.words-2.ensures.value
          (subst (λ p. IsBefore (cells_of (point_count c.args.self.now.shape) c.words-2.result.now) p) c.words.ensures.value
          (before-words points points other one refl c.words-2.ensures.cells c.words.ensures.cells (lists_greater one other (sym c.cmp.ensures ∙ e))));
    }
