use Rattle.std.proofs.Common.{◌∙◌, ap, arith, refl}
use Rattle.std.specs.Str.Parse.{digits_value_after}
use Rattle.std.proofs.lemmas.List.{nil_from_length}
use Rattle.run_audit.proofs.Digits.{overflow-stays}
use Rattle.run_audit.proofs.numbers.value_of.Goals as goal

pub returns-in_err-value-clause-none : goal.returns-in_err-value-clause-none
returns-in_err-value-clause-none c = λ e. overflow-stays c.args.digits.now c.loop-rest.rest.now c.loop-rest.value c.loop-rest.invariant.value_is c.in-len1-up.len_at_least (c.in_err-value.ensures.none refl)

pub returns-clause-some : goal.returns-clause-some
returns-clause-some c = (
  c.loop-rest.invariant.value_is ∙ ap (digits_value_after 10 c.loop-rest.value) (nil_from_length c.loop-rest.rest.now (omega (arith, c.in_default.len_below))),
  c.loop-rest.invariant.small,
)
