use Rattle.std.proofs.Common.{◌≡◌, ◌∙◌, sym, arith}
use Rattle.corner_index.specs.Corners.{corner_number}
use Rattle.corner_index.specs.Keys.{of_corner}
use Rattle.capture_board.specs.Deltas.{parent_of, position_where}
use Rattle.corner_index.proofs.NodeNumbers.{above-none, above-some, each_of_four, length-nodes, of_corner-at}
use Rattle.corner_index.proofs.numbers.numbers_above.Goals as goal

pub bounds-nodes-parent : goal.bounds-nodes-parent
bounds-nodes-parent c =
    omega (arith, c.in-Some.ensures.before, length-nodes c.args.deltas.now c.args.n c.args.nodes.now c.requires.numbers)

pub returns-in-Some : goal.returns-in-Some
returns-in-Some c = λ corner few.
    sym (of_corner-at corner c.args.nodes.now c.in-Some.parent _ (omega (arith, c.in-Some.ensures.before, length-nodes c.args.deltas.now c.args.n c.args.nodes.now c.requires.numbers)))
    ∙ above-some c.args.deltas.now corner c.args.n (of_corner corner c.args.nodes.now) (c.requires.numbers corner few) c.in-Some.parent c.in-Some.ensures.before c.in-Some.ensures.value

pub returns-in-None : goal.returns-in-None
returns-in-None c =
    each_of_four (λ corner number. number ≡ corner_number corner c.args.deltas.now.shape (position_where c.args.deltas.now (parent_of c.args.deltas.now c.args.n))) _
    (above-none c.args.deltas.now 0 c.args.n c.in-None.ensures.value) (above-none c.args.deltas.now 1 c.args.n c.in-None.ensures.value)
    (above-none c.args.deltas.now 2 c.args.n c.in-None.ensures.value) (above-none c.args.deltas.now 3 c.args.n c.in-None.ensures.value)
