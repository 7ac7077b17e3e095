-- Before its stone comes a point is empty, and from then on it has the stone.
use Rattle.std.proofs.Common.{ap}
use Rattle.capture_index.specs.Lists.{IsWantedBy, one_run}
use Rattle.capture_index.specs.Narrowing.{IsOnSide}
use Rattle.capture_index.proofs.Narrowing.{none-same, side-first, side-none, some-same}
use Rattle.capture_index.proofs.by_words.with_time.Goals as goal

pub returns-in-First-clause-some : goal.returns-in-First-clause-some
returns-in-First-clause-some c =
    some-same c.args.nodes (IsOnSide c.from.result c.is_wanted-empty.result c.is_wanted-filled.result) (IsWantedBy c.args.want (one_run c.args.time))
    (side-first c.args.want c.args.time c.in-First.node c.in-First.stone c.from.result c.cell_of.result c.is_wanted-empty.result c.is_wanted-filled.result c.in-First.is c.from.ensures c.cell_of.ensures c.is_wanted-empty.ensures c.is_wanted-filled.ensures) c.with_change.result c.with_change.ensures.some

pub returns-in-First-clause-none : goal.returns-in-First-clause-none
returns-in-First-clause-none c =
    none-same c.args.nodes (IsOnSide c.from.result c.is_wanted-empty.result c.is_wanted-filled.result) (IsWantedBy c.args.want (one_run c.args.time))
    (side-first c.args.want c.args.time c.in-First.node c.in-First.stone c.from.result c.cell_of.result c.is_wanted-empty.result c.is_wanted-filled.result c.in-First.is c.from.ensures c.cell_of.ensures c.is_wanted-empty.ensures c.is_wanted-filled.ensures) c.with_change.result c.with_change.ensures.none

pub returns-in-Many-clause-some : goal.returns-in-Many-clause-some
returns-in-Many-clause-some c =
    some-same c.args.nodes (IsOnSide 0 c.is_wanted-empty.result c.is_wanted-empty.result) (IsWantedBy c.args.want (one_run c.args.time))
    (side-none c.args.want c.args.time c.is_wanted-empty.result c.is_wanted-empty.ensures (ap one_run c.in-Many.is)) c.with_change-in-Many.result c.with_change-in-Many.ensures.some

pub returns-in-Many-clause-none : goal.returns-in-Many-clause-none
returns-in-Many-clause-none c =
    none-same c.args.nodes (IsOnSide 0 c.is_wanted-empty.result c.is_wanted-empty.result) (IsWantedBy c.args.want (one_run c.args.time))
    (side-none c.args.want c.args.time c.is_wanted-empty.result c.is_wanted-empty.ensures (ap one_run c.in-Many.is)) c.with_change-in-Many.result c.with_change-in-Many.ensures.none

pub returns-in-Never-clause-some : goal.returns-in-Never-clause-some
returns-in-Never-clause-some c =
    some-same c.args.nodes (IsOnSide 0 c.is_wanted-empty.result c.is_wanted-empty.result) (IsWantedBy c.args.want (one_run c.args.time))
    (side-none c.args.want c.args.time c.is_wanted-empty.result c.is_wanted-empty.ensures (ap one_run c.in-Never.is)) c.with_change-in-Never.result c.with_change-in-Never.ensures.some

pub returns-in-Never-clause-none : goal.returns-in-Never-clause-none
returns-in-Never-clause-none c =
    none-same c.args.nodes (IsOnSide 0 c.is_wanted-empty.result c.is_wanted-empty.result) (IsWantedBy c.args.want (one_run c.args.time))
    (side-none c.args.want c.args.time c.is_wanted-empty.result c.is_wanted-empty.ensures (ap one_run c.in-Never.is)) c.with_change-in-Never.result c.with_change-in-Never.ensures.none
