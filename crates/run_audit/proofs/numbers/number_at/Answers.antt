use Rattle.std.proofs.Common.{◌∙◌, ◌++◌, arith, ap, rules}
use Rattle.std.specs.Fmt.{decimal}
use Rattle.std.proofs.lemmas.Grind.{common_steps}
use Rattle.std.proofs.lemmas.List.{nil_from_length}
use Rattle.run_audit.proofs.Digits.{to-the-end}
use Rattle.run_audit.proofs.numbers.number_at.Goals as goal

pub returns-then-is_empty-clause-none : goal.returns-then-is_empty-clause-none
returns-then-is_empty-clause-none c = λ e other few stands.
    let told = c.in_ok-number.ensures.some in
    to-the-end c.args.bytes.now c.in_ok-number.number other told.2
    (told.0 ∙ ap (λ l. decimal c.in_ok-number.number ++ l) (nil_from_length c.in_ok-number.rest.now (first_of (search rules, grind (arith, common_steps))))) stands
