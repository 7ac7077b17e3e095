use Rattle.std.proofs.Common.{◌≡◌, ◌∙◌, ap, false, refl, Some, sym, true}
use Rattle.std.specs.Cmp.Lexicographic.{lists_agrees, slice_cmp}
use Rattle.std.specs.Ordering.{is_gt, is_lt, is_some_and, nat_cmp}
use Rattle.std.specs.declared.cmp.Ordering.{Ordering}
use Rattle.std.specs.declared.cmp.Ordering.TheVariants.{Equal, Greater, Less}
use Rattle.dyer_signature.proofs.ByteOrder.{most-itself, not_less}
use Rattle.dyer_signature.proofs.images.lesser.Goals as goal

less_is_not_more : (o : Ordering) → is_lt o ≡ true → is_gt o ≡ false
less_is_not_more Less e = refl
less_is_not_more Equal e = refl
less_is_not_more Greater e = absurd cc

pub returns-then-lt-clause-first : goal.returns-then-lt-clause-first
returns-then-lt-clause-first c =
    let agree = lists_agrees {R = nat_cmp} {C = λ x y. Some (nat_cmp x y)} (λ x y. refl) c.args.second.bytes c.args.first.bytes in
    let less : is_lt (slice_cmp nat_cmp c.args.second.bytes c.args.first.bytes) ≡ true =
    sym (ap (is_some_and is_lt) agree) ∙ sym c.lt.ensures ∙ c.if-lt.true in
    not_less c.args.second.bytes c.args.first.bytes (less_is_not_more _ less)

pub returns-then-lt-clause-second : goal.returns-then-lt-clause-second
returns-then-lt-clause-second c = not_less c.args.second.bytes c.args.second.bytes (most-itself c.args.second.bytes)

pub returns-else-lt-clause-first : goal.returns-else-lt-clause-first
returns-else-lt-clause-first c = not_less c.args.first.bytes c.args.first.bytes (most-itself c.args.first.bytes)

pub returns-else-lt-clause-second : goal.returns-else-lt-clause-second
returns-else-lt-clause-second c less =
    let agree = lists_agrees {R = nat_cmp} {C = λ x y. Some (nat_cmp x y)} (λ x y. refl) c.args.second.bytes c.args.first.bytes in
    let not_lt : is_lt (slice_cmp nat_cmp c.args.second.bytes c.args.first.bytes) ≡ false =
    sym (ap (is_some_and is_lt) agree) ∙ sym c.lt.ensures ∙ c.if-lt.false in
    let e : true ≡ false = sym (ap is_lt less) ∙ not_lt in
    absurd cc
