use Rattle.std.proofs.Common.{◌-◌, ℕ, ap, ◌∙◌}
use Rattle.kb_geometry.specs.Board.{cols_of, point_count}
use Rattle.final_index.specs.declared.order_planes.Side.TheVariants as side
use Rattle.final_index.specs.Order.{side_start}
use Rattle.final_index.specs.OrderWords.{IsAhead, IsBehindOf}
use Rattle.final_index.proofs.OrderedBits.{four-sides}
use Rattle.final_index.proofs.order_planes.note_game.Goals as goal

pub returns : goal.returns
returns c =
    let shape = c.args.shape in
    let spans = c.args.spans.now in
    let points = point_count shape in
    four-sides (IsAhead spans (side_start points side.Right) 1 (points - 1)) (IsBehindOf spans (side_start points side.Left) 1 (points - 1))
    (IsAhead spans (side_start points side.Below) (cols_of shape) (points - cols_of shape)) (IsBehindOf spans (side_start points side.Above) (cols_of shape) (points - cols_of shape))
    c.args.game c.args.words.now c.note_ahead.new.words c.note_behind.new.words c.note_ahead-2.new.words c.note_behind-2.new.words
    (rw (c.side_start.ensures.value ∙ ap (λ (n : ℕ). side_start n side.Right) c.count-points.ensures.value, c.requires.from) at c.note_ahead.ensures)
    (rw (c.side_start-2.ensures.value ∙ ap (λ (n : ℕ). side_start n side.Left) c.count-points.ensures.value, c.requires.from) at c.note_behind.ensures)
    (rw (c.side_start-3.ensures.value ∙ ap (λ (n : ℕ). side_start n side.Below) c.count-points.ensures.value, c.from-cols.ensures ∙ c.cols.ensures.value, c.requires.from) at c.note_ahead-2.ensures)
    (rw (c.side_start-4.ensures.value ∙ ap (λ (n : ℕ). side_start n side.Above) c.count-points.ensures.value, c.from-cols.ensures ∙ c.cols.ensures.value, c.requires.from) at c.note_behind-2.ensures)
