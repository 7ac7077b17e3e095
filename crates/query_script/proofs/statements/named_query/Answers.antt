use Rattle.std.proofs.Common.{refl, subst}
use Rattle.std.specs.Str.{IsUtf8}
use Rattle.query_script.proofs.NamedBodies.{named_parts}
use Rattle.query_script.proofs.statements.named_query.Goals as goal

pub returns-in_default-clause-none : goal.returns-in_default-clause-none
returns-in_default-clause-none c = λ name query filter is. c.in_default.ensures.none refl name is.body is.split

pub returns-in_default-2-clause-none : goal.returns-in_default-2-clause-none
returns-in_default-2-clause-none c = λ name query filter is.
    let never = rw c.in_default-2.is at c.in_ok-name.ensures.none in
    never (subst IsUtf8 (named_parts _ _ _ name query filter c.in-Some.ensures.some is).0 is.utf8)

pub returns-in_default-3-clause-none : goal.returns-in_default-3-clause-none
returns-in_default-3-clause-none c = λ name query filter is.
    let never = rw c.in_default-3.is at c.in_ok-query.ensures.none in
    never query filter (named_parts _ _ _ name query filter c.in-Some.ensures.some is).1
