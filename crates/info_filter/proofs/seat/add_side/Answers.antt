use Rattle.info_filter.proofs.Entries.{name_added, name_kept, row_added, row_kept}
use Rattle.info_filter.proofs.seat.add_side.Goals as goal

pub returns-in-Row-clause-added : goal.returns-in-Row-clause-added
returns-in-Row-clause-added c name there =
    row_added c.args.scores.now.entries c.add_to_row.new.scores.entries c.in-Row.row c.args.won c.args.lost c.add_to_row.ensures.counted name c.args.seat c.in-Row.is there

pub returns-in-Row-clause-kept : goal.returns-in-Row-clause-kept
returns-in-Row-clause-kept c =
    row_kept c.args.scores.now.entries c.add_to_row.new.scores.entries c.in-Row.row c.args.won c.args.lost c.add_to_row.ensures.counted

pub returns-in-New-clause-added : goal.returns-in-New-clause-added
returns-in-New-clause-added c name there =
    name_added c.args.scores.now.entries c.add_name.new.scores.entries c.in-New.name c.args.won c.args.lost c.add_name.ensures.counted name c.args.seat c.in-New.is there

pub returns-in-New-clause-kept : goal.returns-in-New-clause-kept
returns-in-New-clause-kept c =
    name_kept c.args.scores.now.entries c.add_name.new.scores.entries c.in-New.name c.args.won c.args.lost c.add_name.ensures.counted
