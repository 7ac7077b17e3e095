use Rattle.std.proofs.Common.{◌∙◌, ◌++◌, All, List, ap, arith, refl, subst, ℕ}
use Rattle.std.proofs.lemmas.Result.{IfOk-weaker}
use Rattle.game_tree.specs.Tree.{IsTree}
use Rattle.node_position.specs.Games.{Game}
use Rattle.version_publisher.specs.declared.state.VersionState.{VersionState}
use Rattle.session_core.specs.SessionState.{SessionState}
use Rattle.session_core.specs.Stores.{view_of}
use Rattle.run_audit.specs.Asked.{least_asked}
use Rattle.run_audit.specs.Standing.{DepartsIn, kept_last}
use Rattle.run_audit.specs.Texts.{IsTextOver}
use Rattle.run_audit.proofs.Departures.{number-departs-within, same_error}
use Rattle.run_audit.proofs.KeptStates.{raised-watched}
use Rattle.run_audit.proofs.NamedStates.{named-head-departs, named-number-departs, named-passes, named-text-departs, number-told, number-within}
use Rattle.run_audit.proofs.StatementSteps.{over-fits}
use Rattle.run_audit.proofs.statements.behind_named.Goals as goal

pub returns-in_err-rest-clause-departs : goal.returns-in_err-rest-clause-departs
returns-in_err-rest-clause-departs g c = λ count is.
    named-head-departs c.args.serial c.args.left.now c.args.placed.now c.args.base.now c.args.session.now c.requires.over c.requires.named c.requires.fits c.in_ok-head.head.items c.in_ok-head.ensures count
    (subst (λ t. DepartsIn c.args.left.now t count) c.deref.ensures.value
    (c.behind.ensures.departs count (same_error _ _ _ _ c.from_residual-in_err-rest.ensures.1 c.in_err-rest.was is)))

pub returns-in_err-number-clause-departs : goal.returns-in_err-number-clause-departs
returns-in_err-number-clause-departs g c = λ count is.
    let told = number-told c.in_ok-rest.rest.now (least_asked c.args.serial c.args.base.now c.args.placed.now.statement) (kept_last c.args.base.now) c.least_asked-least.result c.last.result count c.least_asked-least.ensures.value c.last.ensures
    (c.number_named.ensures.departs count (same_error _ _ _ _ c.from_residual-in_err-number.ensures.1 c.in_err-number.was is)) in
    named-number-departs c.args.serial c.args.left.now c.args.placed.now c.args.base.now c.args.session.now c.requires.over c.requires.named c.requires.fits c.in_ok-head.head.items c.in_ok-head.ensures
    c.in_ok-rest.rest.now (c.in_ok-rest.ensures.ok ∙ ap (λ h. h ++ c.in_ok-rest.rest.now) c.deref.ensures.value)
    (least_asked c.args.serial c.args.base.now c.args.placed.now.statement) count told.0 told.1

pub returns-clause-passed : goal.returns-clause-passed
returns-clause-passed g c =
    let within = number-within c.in_ok-number.number (least_asked c.args.serial c.args.base.now c.args.placed.now.statement) (kept_last c.args.base.now) c.least_asked-least.result c.last.result c.least_asked-least.ensures.value c.last.ensures c.in_ok-number.ensures.there.0 in
    IfOk-weaker c.behind_answer.result _ _
    (λ rest stands. named-passes c.args.serial c.args.left.now c.args.placed.now c.args.base.now c.args.session.now c.requires.over c.requires.named c.requires.fits c.in_ok-head.head.items c.in_ok-head.ensures
    c.in_ok-rest.rest.now (c.in_ok-rest.ensures.ok ∙ ap (λ h. h ++ c.in_ok-rest.rest.now) c.deref.ensures.value)
    c.in_ok-number.number within c.in_ok-number.ensures.there.1 c.raise.new.self c.in_ok-raise.ensures.raised stands.0 rest.now c.behind_answer.new.session stands.1
    (subst (λ (v : VersionState Game). IsTextOver c.args.placed.now.line (view_of v) c.args.session.now c.args.placed.now.statement stands.0 c.behind_answer.new.session) c.held.ensures stands.2))
    c.behind_answer.ensures.stands

pub returns-clause-departs : goal.returns-clause-departs
returns-clause-departs g c = λ count is.
    let within = number-within c.in_ok-number.number (least_asked c.args.serial c.args.base.now c.args.placed.now.statement) (kept_last c.args.base.now) c.least_asked-least.result c.last.result c.least_asked-least.ensures.value c.last.ensures c.in_ok-number.ensures.there.0 in
    named-text-departs c.args.serial c.args.left.now c.args.placed.now c.args.base.now c.args.session.now c.requires.over c.requires.named c.requires.fits c.in_ok-head.head.items c.in_ok-head.ensures
    c.in_ok-rest.rest.now (c.in_ok-rest.ensures.ok ∙ ap (λ h. h ++ c.in_ok-rest.rest.now) c.deref.ensures.value)
    c.in_ok-number.number within c.in_ok-number.ensures.there.1 c.raise.new.self c.in_ok-raise.ensures.raised count
    (subst (λ (v : VersionState Game). All (λ (g : Game). IsTree g.tree) (view_of v).games → (text : List ℕ) (leaves : SessionState) → IsTextOver c.args.placed.now.line (view_of v) c.args.session.now c.args.placed.now.statement text leaves → DepartsIn c.args.left.now text count) c.held.ensures (c.behind_answer.ensures.departs count is))

pub returns-clause-watched : goal.returns-clause-watched
returns-clause-watched g c =
    let fit = raised-watched c.args.base.now c.raise.new.self c.in_ok-number.number c.args.session.now c.args.session.now c.in_ok-raise.ensures.raised refl c.requires.watched in
    IfOk-weaker c.behind_answer.result _ _
    (λ rest stands. over-fits c.args.placed.now.line (view_of c.raise.new.self.held) c.args.session.now c.behind_answer.new.session c.args.placed.now.statement stands.0 fit
    (subst (λ (v : VersionState Game). IsTextOver c.args.placed.now.line (view_of v) c.args.session.now c.args.placed.now.statement stands.0 c.behind_answer.new.session) c.held.ensures stands.2))
    c.behind_answer.ensures.stands

pub returns-in_err-rest-clause-within : goal.returns-in_err-rest-clause-within
returns-in_err-rest-clause-within g c = λ count is.
    c.behind.ensures.within count (same_error _ _ _ _ c.from_residual-in_err-rest.ensures.1 c.in_err-rest.was is)

pub returns-in_err-number-clause-within : goal.returns-in_err-number-clause-within
returns-in_err-number-clause-within g c = λ count is.
    let told = c.number_named.ensures.departs count (same_error _ _ _ _ c.from_residual-in_err-number.ensures.1 c.in_err-number.was is) in
    omega (arith, number-departs-within c.in_ok-rest.rest.now c.least_asked-least.result count told.1, c.in_ok-rest.ensures.shorter)
