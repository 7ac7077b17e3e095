use Rattle.std.proofs.Common.{refl}
use Rattle.info_filter.proofs.Entries.{small_at, value_at}
use Rattle.info_filter.proofs.seat.add_to_row.Goals as goal

pub with-requires : goal.with-requires
with-requires c = small_at 4294967294 c.args.scores.now.entries c.args.row c.index-score.result.now c.requires.small c.index-score.ensures

pub returns-clause-counted : goal.returns-clause-counted
returns-clause-counted c =
    let (name, is) = value_at c.args.scores.now.entries c.args.row c.index-score.result.now c.index-score.ensures in
    (name, c.index-score.result.now, c.with.result, is, c.with.ensures, refl)
