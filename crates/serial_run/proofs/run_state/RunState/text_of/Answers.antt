use Rattle.std.proofs.Common.{refl, subst, sym}
use Rattle.std.proofs.lemmas.Result.{IfOk-weaker}
use Rattle.session_core.specs.Watches.{WatchesFit}
use Rattle.serial_run.specs.Steps.{Kept}
use Rattle.serial_run.proofs.StatementLemmas.{leaves-base, text-wait}
use Rattle.serial_run.proofs.run_state.RunState.text_of.Goals as goal

pub returns-in-Wait-clause-text : goal.returns-in-Wait-clause-text
returns-in-Wait-clause-text g c =
    IfOk-weaker c.wait_text.result _ _
    (λ text is. λ rules files s kept. rw c.in-Wait.is (text-wait rules files s c.args.self.now c.args.session.now _ kept c.args.placed.now.line text.items is refl))
    c.wait_text.ensures

pub version_text-requires-clause-leaves : goal.version_text-requires-clause-leaves
version_text-requires-clause-leaves g c = λ lifetimes bounds. leaves-base c.args.placed.now.statement c.requires.no_import c.in_default.not-Wait

pub version_text-requires-clause-fit : goal.version_text-requires-clause-fit
version_text-requires-clause-fit g c = λ lifetimes bounds. subst (λ (k : Kept). WatchesFit k.games c.args.session.now) (sym c.self.view_is) c.requires.fit

pub returns-in_default-clause-text : goal.returns-in_default-clause-text
returns-in_default-clause-text g c =
    IfOk-weaker c.version_text.result _ _
    (λ text is. λ rules. rw (← c.self.view_is) (is rules _))
    c.version_text.ensures.text

pub returns-in_default-clause-fit : goal.returns-in_default-clause-fit
returns-in_default-clause-fit g c =
    IfOk-weaker c.version_text.result _ _
    (λ text fit. subst (λ (k : Kept). WatchesFit k.games c.version_text.new.session) c.self.view_is fit)
    c.version_text.ensures.fit
