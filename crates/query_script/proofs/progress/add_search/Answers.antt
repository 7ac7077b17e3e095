use Rattle.std.proofs.Common.{◌<◌, ◌≤◌, length, arith}
use Rattle.query_script.specs.Script.{most_searches}
use Rattle.query_script.proofs.ReadInside.{no_room, search_inside}
use Rattle.query_script.proofs.progress.add_search.Goals as goal

pub returns-then-len-ge-MAX_SEARCHES-clause-read : goal.returns-then-len-ge-MAX_SEARCHES-clause-read
returns-then-len-ge-MAX_SEARCHES-clause-read c = λ lines placed h at.
    let full : most_searches ≤ length c.args.block.searches.items = omega arith in
    rw c.broken.ensures (no_room lines c.args.number placed c.args.block.line c.args.block.searches.items h c.args.query c.args.filter full at)

pub returns-clause-read : goal.returns-clause-read
returns-clause-read c = λ lines placed h at.
    let room : length c.args.block.searches.items < most_searches = omega arith in
    rw c.in_ok-push.ensures.items
    (search_inside lines c.args.number placed c.args.block.line c.args.block.searches.items h c.args.query c.args.filter room at)
