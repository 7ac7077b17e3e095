use Rattle.std.proofs.Common.{arith, refl}
use Rattle.run_audit.specs.AuditWords.{rules_of}
use Rattle.run_audit.proofs.Departures.{same_error}
use Rattle.run_audit.proofs.ImportStates.{import-departs, import-passes}
use Rattle.run_audit.proofs.NextSteps.{held-floor, joined-counts, joined-floor, joined-last, shown-by}
use Rattle.run_audit.proofs.whole.behind_next.Goals as goal

pub returns-in_default-clause-departs : goal.returns-in_default-clause-departs
returns-in_default-clause-departs g c = λ files told count is recorded. c.behind_statement.ensures.departs count is files recorded (rules_of c.args.words) refl

pub returns-in_default-clause-within : goal.returns-in_default-clause-within
returns-in_default-clause-within g c = c.behind_statement.ensures.within

pub returns-in_default-clause-shorter : goal.returns-in_default-clause-shorter
returns-in_default-clause-shorter g c = c.behind_statement.ensures.shorter

pub returns-in_err-rest-clause-departs : goal.returns-in_err-rest-clause-departs
returns-in_err-rest-clause-departs g c = λ files told count is recorded.
    import-departs files (rules_of c.args.words) recorded c.args.left.now c.args.placed.now c.args.base.now c.args.session.now c.in-Some.source (rw c.in-Some.is at c.in_ok-source.ensures.some) count
    (c.behind_opening.ensures.departs count (same_error _ _ _ _ c.from_residual-in_err-rest.ensures.1 c.in_err-rest.was is))

pub returns-in_err-rest-clause-within : goal.returns-in_err-rest-clause-within
returns-in_err-rest-clause-within g c = λ count is.
    c.behind_opening.ensures.within count (same_error _ _ _ _ c.from_residual-in_err-rest.ensures.1 c.in_err-rest.was is)

pub run_import-requires-clause-number : goal.run_import-requires-clause-number
run_import-requires-clause-number g c κs within = omega (arith, joined-last c.args.base.now c.behind_opening.new.base c.in_ok-rest.ensures.joined, c.requires.number)

pub returns-clause-passed : goal.returns-clause-passed
returns-clause-passed g c = λ files told recorded each among.
    let own = rw c.in-Some.is at c.in_ok-source.ensures.some in
    let joined = c.in_ok-rest.ensures.joined in
    import-passes files (rules_of c.args.words) recorded c.args.left.now c.args.placed.now c.args.base.now c.args.session.now c.in-Some.source own c.in_ok-rest.rest.now c.behind_opening.new.base c.run_import.new.base
    c.requires.fits c.in_ok-rest.ensures.stands joined (joined-counts c.args.base.now c.behind_opening.new.base joined)
    (c.in_ok-run_import.ensures.imported files told recorded (shown-by c.args.placed.now recorded c.args.shown.now each among _ c.in-Some.source c.shown_at.result c.unwrap_or-shown.result own c.shown_at.ensures.there c.shown_at.ensures.none c.unwrap_or-shown.ensures))

pub returns-clause-last : goal.returns-clause-last
returns-clause-last g c = omega (arith, joined-last c.args.base.now c.behind_opening.new.base c.in_ok-rest.ensures.joined, c.in_ok-run_import.ensures.last)

pub returns-clause-watched : goal.returns-clause-watched
returns-clause-watched g c =
    held-floor c.behind_opening.new.base c.run_import.new.base c.args.session.now c.in_ok-run_import.ensures.held
    (joined-floor c.args.base.now c.behind_opening.new.base c.args.session.now c.in_ok-rest.ensures.joined c.requires.watched)
