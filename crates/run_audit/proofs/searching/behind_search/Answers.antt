use Rattle.std.proofs.Common.{arith, rules, subst}
use Rattle.std.proofs.lemmas.Grind.{common_steps}
use Rattle.session_core.specs.Stores.{view_of}
use Rattle.run_audit.specs.Standing.{DepartsIn}
use Rattle.run_audit.proofs.Departures.{same_error}
use Rattle.run_audit.proofs.SearchSteps.{end-departs-search, head-departs-search, hits-depart-search, search-stands}
use Rattle.run_audit.proofs.searching.behind_search.Goals as goal

pub returns-in_err-behind_head-clause-departs : goal.returns-in_err-behind_head-clause-departs
returns-in_err-behind_head-clause-departs g c = λ n is trees text after of.
    let answer = c.in_ok-answer.answer in
    head-departs-search c.args.line (view_of c.args.version.now) c.args.query.now c.args.filter.now c.args.session.now c.number.result c.game_count.result c.len-count.result answer.hits.items answer.table
    c.number.ensures c.game_count.ensures.value (first_of (search rules, grind (arith, common_steps))) c.in_ok-answer.ensures.hits c.in_ok-answer.ensures.table trees text after of c.args.left.now n
    (subst (λ t. DepartsIn c.args.left.now t n) (first_of (search rules, grind (arith, common_steps)))
    (c.behind.ensures.departs n (same_error _ _ _ _ c.from_residual-in_err-behind_head.ensures.1 c.in_err-behind_head.was is)))

pub returns-in_err-behind_lines-clause-departs : goal.returns-in_err-behind_lines-clause-departs
returns-in_err-behind_lines-clause-departs g c = λ n is trees text after of.
    let answer = c.in_ok-answer.answer in
    hits-depart-search c.args.line (view_of c.args.version.now) c.args.query.now c.args.filter.now c.args.session.now c.number.result c.game_count.result c.len-count.result answer.hits.items answer.table
    c.number.ensures c.game_count.ensures.value (first_of (search rules, grind (arith, common_steps))) c.in_ok-answer.ensures.hits c.in_ok-answer.ensures.table trees text after of c.args.left.now c.in_ok-behind_head.behind_head.now n
    (first_of (search rules, grind (arith, common_steps)))
    (subst (λ t. DepartsIn c.in_ok-behind_head.behind_head.now t n) (first_of (search rules, grind (arith, common_steps)))
    (c.behind_hits.ensures.departs n (same_error _ _ _ _ c.from_residual-in_err-behind_lines.ensures.1 c.in_err-behind_lines.was is)))

pub returns-in_err-rest-clause-departs : goal.returns-in_err-rest-clause-departs
returns-in_err-rest-clause-departs g c = λ n is trees text after of.
    let answer = c.in_ok-answer.answer in
    end-departs-search c.args.line (view_of c.args.version.now) c.args.query.now c.args.filter.now c.args.session.now c.number.result c.game_count.result c.len-count.result answer.hits.items answer.table
    c.number.ensures c.game_count.ensures.value (first_of (search rules, grind (arith, common_steps))) c.in_ok-answer.ensures.hits c.in_ok-answer.ensures.table trees text after of c.args.left.now c.in_ok-behind_head.behind_head.now c.in_ok-behind_lines.behind_lines.now n
    (first_of (search rules, grind (arith, common_steps))) (first_of (search rules, grind (arith, common_steps)))
    (subst (λ t. DepartsIn c.in_ok-behind_lines.behind_lines.now t n) (first_of (search rules, grind (arith, common_steps)))
    (c.behind-2.ensures.departs n (same_error _ _ _ _ c.from_residual-in_err-rest.ensures.1 c.in_err-rest.was is)))

pub returns-clause-stands : goal.returns-clause-stands
returns-clause-stands g c =
    let answer = c.in_ok-answer.answer in
    search-stands c.args.line (view_of c.args.version.now) c.args.query.now c.args.filter.now c.args.session.now c.number.result c.game_count.result c.len-count.result answer.hits.items answer.table
    c.number.ensures c.game_count.ensures.value (first_of (search rules, grind (arith, common_steps))) c.in_ok-answer.ensures.hits c.in_ok-answer.ensures.table _ c.args.left.now c.in_ok-behind_head.behind_head.now c.in_ok-behind_lines.behind_lines.now c.in_ok-rest.rest.now
    (first_of (search rules, grind (arith, common_steps))) (first_of (search rules, grind (arith, common_steps))) (first_of (search rules, grind (arith, common_steps))) (first_of (search rules, grind (arith, common_steps)))

pub returns-in_err-behind_head-clause-within : goal.returns-in_err-behind_head-clause-within
returns-in_err-behind_head-clause-within g c = λ n is.
    c.behind.ensures.within n (same_error _ _ _ _ c.from_residual-in_err-behind_head.ensures.1 c.in_err-behind_head.was is)

pub returns-in_err-behind_lines-clause-within : goal.returns-in_err-behind_lines-clause-within
returns-in_err-behind_lines-clause-within g c = λ n is.
    let here = c.behind_hits.ensures.within n (same_error _ _ _ _ c.from_residual-in_err-behind_lines.ensures.1 c.in_err-behind_lines.was is) in
    omega (arith, here, c.in_ok-behind_head.ensures.shorter)

pub returns-in_err-rest-clause-within : goal.returns-in_err-rest-clause-within
returns-in_err-rest-clause-within g c = λ n is.
    let here = c.behind-2.ensures.within n (same_error _ _ _ _ c.from_residual-in_err-rest.ensures.1 c.in_err-rest.was is) in
    omega (arith, here, c.in_ok-behind_lines.ensures.shorter, c.in_ok-behind_head.ensures.shorter)

pub returns-clause-shorter : goal.returns-clause-shorter
returns-clause-shorter g c = omega (arith, c.in_ok-rest.ensures.shorter, c.in_ok-behind_lines.ensures.shorter, c.in_ok-behind_head.ensures.shorter)
