use Rattle.query_script.proofs.ReadInside.{block_again, skip_inside}
use Rattle.query_script.proofs.progress.read_inside.Goals as goal

pub returns-in-Skipped-clause-read : goal.returns-in-Skipped-clause-read
returns-in-Skipped-clause-read c = λ lines h at. skip_inside lines c.args.number c.args.placed.now.items c.args.block.line c.args.block.searches.items h (rw c.in-Skipped.is at at)

pub returns-in-End-clause-bad_line : goal.returns-in-End-clause-bad_line
returns-in-End-clause-bad_line c = λ k is lines h at. c.end_block.ensures.bad_line k is lines h (rw c.in-End.is at at)

pub returns-in-Together-clause-read : goal.returns-in-Together-clause-read
returns-in-Together-clause-read c = λ lines h at. rw c.broken.ensures (block_again lines c.args.number c.args.placed.now.items c.args.block.line c.args.block.searches.items h (rw c.in-Together.is at at))
