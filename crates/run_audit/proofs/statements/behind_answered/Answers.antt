use Rattle.std.proofs.Common.{ap, subst}
use Rattle.std.proofs.lemmas.Result.{IfOk-weaker}
use Rattle.node_position.specs.Games.{Game}
use Rattle.version_publisher.specs.Contents.{items_in}
use Rattle.version_publisher.specs.declared.state.VersionState.{VersionState}
use Rattle.session_core.specs.Stores.{view_of}
use Rattle.run_audit.specs.Texts.{IsTextOver}
use Rattle.run_audit.proofs.OverStates.{none-departs, none-passes}
use Rattle.run_audit.proofs.StatementSteps.{over-fits}
use Rattle.run_audit.proofs.statements.behind_answered.Goals as goal

pub returns-clause-passed : goal.returns-clause-passed
returns-clause-passed g c =
    IfOk-weaker c.behind_answer.result _ _
    (λ rest stands. λ files recorded rules same. none-passes files recorded rules c.args.left.now c.args.placed.now c.args.base.now c.args.session.now c.requires.over (c.names_version.ensures.none c.if-names_version.false) (view_of c.held.result.now) stands.0 rest.now c.behind_answer.new.session stands.1 stands.2)
    c.behind_answer.ensures.stands

pub returns-clause-departs : goal.returns-clause-departs
returns-clause-departs g c = λ count is files recorded rules same.
    none-departs files recorded rules c.args.left.now c.args.placed.now c.args.base.now c.args.session.now c.requires.over (c.names_version.ensures.none c.if-names_version.false) (view_of c.held.result.now) count (c.behind_answer.ensures.departs count is)
    (ap (λ (v : VersionState Game). items_in v.parts) c.held.ensures)

pub returns-clause-watched : goal.returns-clause-watched
returns-clause-watched g c =
    IfOk-weaker c.behind_answer.result _ _
    (λ rest stands. over-fits c.args.placed.now.line (view_of c.args.base.now.held) c.args.session.now c.behind_answer.new.session c.args.placed.now.statement stands.0 c.requires.watched
    (subst (λ (v : VersionState Game). IsTextOver c.args.placed.now.line (view_of v) c.args.session.now c.args.placed.now.statement stands.0 c.behind_answer.new.session) c.held.ensures stands.2))
    c.behind_answer.ensures.stands
