use Rattle.opening_tree.proofs.GroupSteps.{next-added, next-room}
use Rattle.opening_tree.proofs.groups.add_next.Goals as goal

pub count_next-requires : goal.count_next-requires
count_next-requires c =
    let (points, words, ready, is) = c.requires in
    next-room points words c.args.openings.now.entries c.args.at ready is

pub returns-clause-added : goal.returns-clause-added
returns-clause-added c points words ready is =
    next-added points words c.args.openings.now.entries c.args.at ready is c.args.played c.args.outcome c.count_next.new.self.entries c.in_ok-count_next.ensures.entries
