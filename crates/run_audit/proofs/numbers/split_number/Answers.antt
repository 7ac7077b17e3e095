use Rattle.std.proofs.Common.{◌∙◌, ◌++◌, arith, ap, refl, subst, sym, true≢false}
use Rattle.std.specs.Str.Parse.{AllDigits, digits_value}
use Rattle.std.proofs.lemmas.Fmt.{decimal_is_IsNumeral}
use Rattle.std.proofs.lemmas.List.{take-append-drop}
use Rattle.run_audit.specs.Standing.{BeginsNoNumber}
use Rattle.run_audit.proofs.Digits.{IsWritten, decimal-written, digits-are, no-more-digits, written-decimal}
use Rattle.run_audit.proofs.numbers.split_number.Goals as goal

pub returns-then-not-is_written-clause-none : goal.returns-then-not-is_written-clause-none
returns-then-not-is_written-clause-none c = λ e number rest few ended is.
    let same = c.split_at.ensures.front ∙ digits-are c.args.bytes.now rest number c.digit_count.result few ended is c.digit_count.ensures.within c.digit_count.ensures.digits c.digit_count.ensures.ended in
    true≢false (sym (c.is_written.ensures.1 (subst IsWritten (sym same) (decimal-written number few))) ∙ c.if-not-is_written.true)

pub returns-in_err-number-clause-none : goal.returns-in_err-number-clause-none
returns-in_err-number-clause-none c = λ e number rest few ended is.
    let same = c.split_at.ensures.front ∙ digits-are c.args.bytes.now rest number c.digit_count.result few ended is c.digit_count.ensures.within c.digit_count.ensures.digits c.digit_count.ensures.ended in
    omega (arith, c.in_err-number.ensures.none refl, ap (digits_value 10) same, (decimal_is_IsNumeral number few).1, few)

pub returns-clause-some : goal.returns-clause-some
returns-clause-some c =
    let told = c.in_ok-number.ensures.some in
    let all = subst (AllDigits 10) (sym c.split_at.ensures.front) c.digit_count.ensures.digits in
    let same = written-decimal c.split_at.result.0.now c.in_ok-number.number all (c.is_written.ensures.0 c.if-not-is_written.false) told.0 told.1 in (
      sym (take-append-drop c.digit_count.result c.args.bytes.now) ∙ (λ i. (sym c.split_at.ensures.front ∙ same) i ++ sym c.split_at.ensures.back i),
      subst BeginsNoNumber (sym c.split_at.ensures.back)
          (no-more-digits c.args.bytes.now c.split_at.result.0.now c.in_ok-number.number c.digit_count.result same told.1 c.split_at.ensures.front c.digit_count.ensures.within c.digit_count.ensures.ended),
      told.1,
    )
