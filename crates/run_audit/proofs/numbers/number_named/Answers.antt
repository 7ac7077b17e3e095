use Rattle.std.proofs.Common.{arith, refl}
use Rattle.run_audit.specs.Chosen.{IsChosen}
use Rattle.run_audit.proofs.numbers.number_named.Goals as goal

pub returns-in-None-clause-departs : goal.returns-in-None-clause-departs
returns-in-None-clause-departs c = λ count is. (
  IsChosen.least (c.in-None.ensures.none refl) (record { from = omega arith; to = c.requires }) (λ other within. within.from),
  c.no_number.ensures.departs count is (c.in-None.ensures.none refl c.args.least (record { from = omega arith; to = c.requires })),
)
