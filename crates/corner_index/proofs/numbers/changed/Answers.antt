use Rattle.std.proofs.Common.{refl, sym, arith}
use Rattle.std.proofs.lemmas.Option.{none-some, same_Some}
use Rattle.corner_index.proofs.CornerNumbers.{changed_off, number_after, number_small, power_fits, product_fits, taken_fits}
use Rattle.corner_index.proofs.numbers.changed.Goals as goal

pub returns-in_default : goal.returns-in_default
returns-in_default c p stands =
    changed_off c.args.corner c.args.shape c.args.number c.args.change p stands
    (λ k lt there. none-some k ((c.in_default.ensures.exact k lt).1 there))

pub pow-weight-requires : goal.pow-weight-requires
pow-weight-requires c = power_fits c.from.result c.in-Some.place c.from.ensures c.in-Some.ensures.below

pub overflow_mul-result : goal.overflow_mul-result
overflow_mul-result c =
    omega (arith, product_fits c.digit.result c.pow-weight.result c.from.result c.in-Some.place c.args.change.old c.digit.ensures c.pow-weight.ensures c.from.ensures c.in-Some.ensures.below)

pub overflow_sub-result : goal.overflow_sub-result
overflow_sub-result c =
    taken_fits c.args.corner c.args.shape c.args.number c.args.change c.requires.before.0 c.requires.before.1 c.in-Some.place c.in-Some.ensures.below
    ((c.in-Some.ensures.exact c.in-Some.place c.in-Some.ensures.below).0 refl)
    (λ k lt there. sym (same_Some _ _ ((c.in-Some.ensures.exact k lt).1 there)))
    c.digit.result c.pow-weight.result c.from.result c.digit.ensures c.pow-weight.ensures c.from.ensures

pub overflow_mul-result-2 : goal.overflow_mul-result-2
overflow_mul-result-2 c =
    omega (arith, product_fits c.digit-2.result c.pow-weight.result c.from.result c.in-Some.place c.args.change.new c.digit-2.ensures c.pow-weight.ensures c.from.ensures c.in-Some.ensures.below)

pub overflow_add-result : goal.overflow_add-result
overflow_add-result c =
    omega (
      arith,
      number_small c.args.corner c.args.shape c.args.number c.args.change c.requires.before.0 c.requires.before.1,
      product_fits c.digit-2.result c.pow-weight.result c.from.result c.in-Some.place c.args.change.new c.digit-2.ensures c.pow-weight.ensures c.from.ensures c.in-Some.ensures.below,
    )

pub returns : goal.returns
returns c p stands =
    number_after c.args.corner c.args.shape c.args.number c.args.change p stands c.in-Some.place c.in-Some.ensures.below
    ((c.in-Some.ensures.exact c.in-Some.place c.in-Some.ensures.below).0 refl)
    (λ k lt there. sym (same_Some _ _ ((c.in-Some.ensures.exact k lt).1 there)))
    c.digit.result c.digit-2.result c.pow-weight.result c.from.result c.digit.ensures c.digit-2.ensures c.pow-weight.ensures c.from.ensures c.requires.point
