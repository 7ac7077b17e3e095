use Rattle.query_script.proofs.FilteredBodies.{filtered_parts}
use Rattle.query_script.proofs.statements.filtered_query.Goals as goal

pub returns-in_default-clause-none : goal.returns-in_default-clause-none
returns-in_default-clause-none c = λ query filter is.
    let parted = c.parted_at_where.ensures in
    let never = rw c.in_default.is at c.in_ok-query.ensures.none in
    never query (filtered_parts _ _ _ query filter parted.split parted.before parted.from is).0

pub returns-in_default-2-clause-none : goal.returns-in_default-2-clause-none
returns-in_default-2-clause-none c = λ query filter is.
    let parted = c.parted_at_where.ensures in
    let never = rw c.in_default-2.is at c.in_ok-filter.ensures.none in
    never filter.conditions (filtered_parts _ _ _ query filter parted.split parted.before parted.from is).1
