use Rattle.std.proofs.Common.{◌∙◌, ◌++◌, ap}
use Rattle.std.proofs.lemmas.Result.{IfOk-weaker}
use Rattle.run_audit.specs.Guided.{version_head}
use Rattle.run_audit.proofs.named.statement_head.Goals as goal

pub returns : goal.returns
returns c =
    IfOk-weaker c.version_head.result _ _
    (λ head is asked told. is ∙ ap (version_head c.args.placed.now.line) (c.deref.ensures.value ∙ c.in_ok-append_asked.ensures asked told ∙ ap (λ l. l ++ asked) c.new-asked.ensures.items))
    c.version_head.ensures
