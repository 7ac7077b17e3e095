use Rattle.capture_board.specs.Deltas.{parent_of, position_where}
use Rattle.node_position.proofs.Returning.{Shows-parent, leads_here, undoable}
use Rattle.node_position.proofs.building.take_back.Goals as goal

pub undo-requires : goal.undo-requires
undo-requires c = undoable c.args.deltas.now c.changes.ensures.deltas c.in-Some.n c.args.here c.in-Some.is c.args.board.now c.requires.shows c.changes.result.now c.changes.ensures.value

pub returns-clause-shows : goal.returns-clause-shows
returns-clause-shows c =
    let lead = leads_here c.args.deltas.now c.changes.ensures.deltas c.in-Some.n c.args.here c.in-Some.is c.args.board.now c.requires.shows in
    let restored = c.undo.ensures.restores (position_where c.args.deltas.now (parent_of c.args.deltas.now c.in-Some.n)) (rw c.changes.ensures.value lead) in
    Shows-parent c.args.deltas.now c.changes.ensures.deltas c.in-Some.n c.args.here c.in-Some.is c.args.board.now c.requires.shows c.undo.new.self c.undo.ensures.shape restored c.parent.result c.parent.ensures.value
