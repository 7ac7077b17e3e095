use Rattle.std.proofs.Common.{◌∙◌, ap, length, subst, sym}
use Rattle.std.proofs.lemmas.List.{with_items_is}
use Rattle.search_run.specs.Seen.{HaveSeenOf}
use Rattle.search_run.proofs.searchers.Searchers.look_each.Goals as goal

pub returns-clause-seen : goal.returns-clause-seen
returns-clause-seen g c = λ log h.
    let now = c.look_each.new.block in
    let is = with_items_is c.args.self.now.block now (c.look_each.auto.block ∙ ap length c.deref_mut.ensures.value ∙ sym c.args.self.now.block.ok.0) in
    rw c.deref_mut.ensures.value at (c.look_each.ensures.seen log (subst (HaveSeenOf log) is h))
