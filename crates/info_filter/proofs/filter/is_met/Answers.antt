use Rattle.std.proofs.Common.{ℤ, ◌↔◌, ◌≤ℤ◌, IsTrue, subst, sym}
use Rattle.info_filter.specs.declared.condition.Condition.{Condition}
use Rattle.info_filter.specs.Filter.{IsMetBy}
use Rattle.info_filter.proofs.Conditions.{day_passes}
use Rattle.info_filter.proofs.filter.is_met.Goals as goal

pub returns-in-From : goal.returns-in-From
returns-in-From c =
    let info = c.args.info.now in
    subst (λ (x : Condition). IsTrue c.is_from.result ↔ IsMetBy x info) (sym c.in-From.is)
    (day_passes info.date c.args.day (λ (n : ℤ). c.in-From.first ≤ℤ n) c.requires.day c.is_from.result c.is_from.ensures)

pub returns-in-To : goal.returns-in-To
returns-in-To c =
    let info = c.args.info.now in
    subst (λ (x : Condition). IsTrue c.is_to.result ↔ IsMetBy x info) (sym c.in-To.is)
    (day_passes info.date c.args.day (λ (n : ℤ). n ≤ℤ c.in-To.last) c.requires.day c.is_to.result c.is_to.ensures)
