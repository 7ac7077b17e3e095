use Rattle.std.proofs.Common.{[]}
use Rattle.opening_tree.specs.OpeningTables.{opening_in}
use Rattle.opening_tree.proofs.GroupSteps.{entry-added, entry-room}
use Rattle.opening_tree.proofs.groups.add_entry.Goals as goal

pub count-requires : goal.count-requires
count-requires c =
    let (points, ready) = c.requires.ready in
    entry-room points c.args.words.now c.args.entry (opening_in c.none-none.result []) c.none-none.ensures c.args.openings.now.entries c.find_or_begin.new.self.entries c.in_ok-at.at ready c.in_ok-at.ensures.entries c.in_ok-at.ensures.at

pub returns-clause-added : goal.returns-clause-added
returns-clause-added c points ready =
    entry-added points c.args.words.now c.args.entry (opening_in c.none-none.result []) c.none-none.ensures c.args.openings.now.entries c.find_or_begin.new.self.entries c.in_ok-at.at ready c.in_ok-at.ensures.entries c.in_ok-at.ensures.at
    c.count.new.self.entries c.count.ensures.entries
