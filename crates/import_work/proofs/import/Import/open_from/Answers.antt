use Rattle.std.proofs.Common.{◌≡◌, ◌∙◌, ap, sym, subst}
use Rattle.std.proofs.lemmas.Result.{IfOk-weaker}
use Rattle.import_work.specs.Imports.{ImportState, IsListedIn}
use Rattle.import_work.specs.declared.source.Source.{Source}
use Rattle.import_work.specs.declared.source.Source.TheVariants as source
use Rattle.import_work.proofs.import.Import.open_from.Goals as goal

pub returns-in-Under-clause-told : goal.returns-in-Under-clause-told
returns-in-Under-clause-told g c = λ all told.
    let same : source.Under c.as_str.result.now ≡ c.args.source.now = ap source.Under c.as_str.ensures ∙ sym c.in-Under.is in
    IfOk-weaker c.open.result _ _ (λ (import : ImportState) is. subst (λ (s : Source). IsListedIn all s import.body import.left) same is) (c.open.ensures.told all told)
