use Rattle.std.proofs.Common.{◌∙◌, Bool, refl, subst, sym}
use Rattle.std.proofs.lemmas.Bool.{false≢true}
use Rattle.std.proofs.lemmas.Result.{IfOk-weaker}
use Rattle.import_work.specs.declared.outcome.FileOutcome.TheVariants as file
use Rattle.run_audit.specs.Importing.{IsFileTold}
use Rattle.run_audit.proofs.importing.file_outcome.Goals as goal

pub returns-then-is_unread-clause-told : goal.returns-then-is_unread-clause-told
returns-then-is_unread-clause-told g c = λ all told recorded shows.
    subst (λ (b : Bool). IsFileTold all c.args.path.now c.args.name.now c.args.counts.now c.args.counts.now file.Unread c.args.games.now c.args.games.now b)
    (sym (sym (c.is_unread.ensures recorded shows) ∙ c.if-is_unread.true)) (IsFileTold.lost refl refl refl)

pub returns-clause-told : goal.returns-clause-told
returns-clause-told g c = λ all told.
    IfOk-weaker c.add_file.result _ _
    (λ outcome added recorded shows.
    subst (λ (b : Bool). IsFileTold all c.args.path.now c.args.name.now c.args.counts.now c.add_file.new.counts outcome c.args.games.now c.add_file.new.games b)
    (sym (sym (c.is_unread.ensures recorded shows) ∙ c.if-is_unread.false)) (IsFileTold.read added))
    (c.add_file.ensures.read all told)

pub returns-clause-unasked : goal.returns-clause-unasked
returns-clause-unasked g c = λ recorded shows is. absurd (false≢true (sym c.if-is_unread.false ∙ c.is_unread.ensures recorded shows ∙ is))
