use Rattle.std.proofs.Common.{refl}
use Rattle.std.proofs.lemmas.Result.{IfOk-weaker}
use Rattle.version_publisher.specs.Contents.{items_in}
use Rattle.session_core.specs.Stores.{view_of}
use Rattle.session_core.proofs.WatchAnswers.{answer-fits}
use Rattle.serial_run.specs.Steps.{kept_at}
use Rattle.serial_run.proofs.FittingWatches.{block-fits}
use Rattle.serial_run.proofs.StatementLemmas.{text-answered, text-together, text-until}
use Rattle.serial_run.proofs.statement_text.version_text.Goals as goal

pub returns-in-Until-clause-text : goal.returns-in-Until-clause-text
returns-in-Until-clause-text g c =
    IfOk-weaker c.until_text.result _ _
    (λ text is. λ rules waiting files s kept. rw c.in-Until.is (text-until rules files s (kept_at c.args.version.now waiting) c.args.session.now _ kept c.args.placed.now.line text.items c.in-Until.number is refl))
    c.until_text.ensures

pub returns-in-Together-clause-text : goal.returns-in-Together-clause-text
returns-in-Together-clause-text g c =
    IfOk-weaker c.block_at.result _ _
    (λ text is. λ rules waiting files s kept. rw c.in-Together.is (text-together rules files s (kept_at c.args.version.now waiting) c.args.session.now _ kept c.args.placed.now.line text.items c.in-Together.searches (rw c.as_slice.ensures at is)))
    c.block_at.ensures

pub returns-in-Together-clause-fit : goal.returns-in-Together-clause-fit
returns-in-Together-clause-fit g c =
    IfOk-weaker c.block_at.result _ _
    (λ text is. block-fits (items_in c.args.version.now.parts) _ _ c.args.session.now _ text.items c.requires.fit is)
    c.block_at.ensures

pub returns-in_default-clause-text : goal.returns-in_default-clause-text
returns-in_default-clause-text g c =
    IfOk-weaker c.answer_text.result _ _
    (λ text is. λ rules waiting files s kept. text-answered rules files s (kept_at c.args.version.now waiting) c.args.session.now _ kept c.args.placed.now.line text.items c.args.placed.now.statement is)
    c.answer_text.ensures

pub returns-in_default-clause-fit : goal.returns-in_default-clause-fit
returns-in_default-clause-fit g c =
    IfOk-weaker c.answer_text.result _ _
    (λ text is. answer-fits c.args.placed.now.line (view_of c.args.version.now) c.args.session.now _ c.args.placed.now.statement text.items c.requires.fit is)
    c.answer_text.ensures
