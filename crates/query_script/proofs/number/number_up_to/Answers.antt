use Rattle.std.proofs.Common.{refl}
use Rattle.query_script.proofs.number.number_up_to.Goals as goal

pub returns-in_err-number-clause-none : goal.returns-in_err-number-clause-none
returns-in_err-number-clause-none c = λ _ n _ is. c.in_err-number.ensures.none refl n is
