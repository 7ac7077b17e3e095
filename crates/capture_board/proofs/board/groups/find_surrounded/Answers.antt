use Rattle.std.proofs.Common.{◌≢◌, ℕ, get_or, sym, ◌∙◌, arith}
use Rattle.std.proofs.lemmas.Bool.{false≢true}
use Rattle.kb_geometry.specs.Board.{AreNeighbours}
use Rattle.kb_geometry.specs.Capture.{cell_at}
use Rattle.kb_geometry.specs.declared.stone.Cell.TheVariants as cell
use Rattle.capture_board.proofs.Fills.{Filled-start, Filled-member, Filled-liberty, Filled-more, Filled-group, Filled-surrounded}
use Rattle.capture_board.proofs.Walks.{walk-lt-count}
use Rattle.capture_board.proofs.board.groups.find_surrounded.Goals as goal

pub loop-visited-init : goal.loop-visited-init
loop-visited-init c = Filled-start c.args.shape c.args.cells.now c.args.start c.insert.new.self (rw c.requires.no_group at c.insert.ensures)

pub add_neighbours-requires-clause-on_board : goal.add_neighbours-requires-clause-on_board
add_neighbours-requires-clause-on_board c =
    let w = Filled-member c.args.shape c.args.cells.now c.args.start c.loop-visited.group c.loop-visited.visited c.loop-visited.invariant (omega arith) in
    rw c.at-point.ensures.value (walk-lt-count c.args.shape c.args.cells.now (cell_at c.args.cells.now c.args.start) w c.requires.on_board)

pub returns-then-add_neighbours-clause-liberty : goal.returns-then-add_neighbours-clause-liberty
returns-then-add_neighbours-clause-liberty c =
    let free = (c.add_neighbours.ensures.liberty).0 c.if-add_neighbours.true in
    Filled-liberty c.args.shape c.args.cells.now c.args.start c.loop-visited.group c.loop-visited.visited c.loop-visited.invariant (omega arith) free.0 (rw c.at-point.ensures.value at free.1) free.2

pub loop-visited-preserved : goal.loop-visited-preserved
loop-visited-preserved c =
    let none : (q : ℕ) → AreNeighbours c.args.shape (get_or c.loop-visited.group c.loop-visited.visited 0) q → cell_at c.args.cells.now q ≢ cell.Empty = λ q near e. false≢true (sym c.if-add_neighbours.false ∙ (c.add_neighbours.ensures.liberty).1 (q, rw c.at-point.ensures.value near, e)) in
    let more = Filled-more c.args.shape c.args.cells.now c.args.start c.loop-visited.group c.loop-visited.visited c.loop-visited.invariant (omega arith) in
    more c.add_neighbours.new.group c.add_neighbours.ensures.extends (λ q h. rw (c.at-point.ensures.value, c.from.ensures) at (c.add_neighbours.ensures.only q h)) none (λ q near e. c.add_neighbours.ensures.added (λ t. false≢true (sym c.if-add_neighbours.false ∙ t)) q (rw c.at-point.ensures.value near) (rw c.from.ensures e))

pub returns-clause-surrounded : goal.returns-clause-surrounded
returns-clause-surrounded c = Filled-surrounded c.args.shape c.args.cells.now c.args.start c.loop-visited.group c.loop-visited.visited c.loop-visited.invariant (omega arith)

pub returns-clause-members : goal.returns-clause-members
returns-clause-members c = Filled-group c.args.shape c.args.cells.now c.args.start c.loop-visited.group c.loop-visited.visited c.loop-visited.invariant (omega arith)
