use Rattle.std.proofs.Common.{arith, ◌≡◌, ◌+◌, ◌≤◌, ◌++◌, [], ◌∷◌, length, length-append, ap, sym, subst, ◌∙◌}
use Rattle.std.specs.Arc.{arc_value}
use Rattle.version_publisher.specs.Contents.{items_in}
use Rattle.version_publisher.proofs.ReadyStates.{joined_append_fits}
use Rattle.publisher_cases.proofs.desk.Desk.append.Goals as goal

pub invariant_of-self-2 : goal.invariant_of-self-2
invariant_of-self-2 c =
    let desk = c.args.self.now in
    let whole = desk.publisher.log ++ desk.publisher.pending in
    let part = (arc_value c.in_ok-part.part).all.items in
    let grown : c.append_to.new.publisher.log ++ c.append_to.new.publisher.pending ≡ whole ++ part ∷ [] = c.if-not-append_to.ensures.log in
    let parts : length (whole ++ part ∷ []) ≤ desk.parts + 1 = omega (arith, length-append whole (part ∷ []), desk.few_parts) in
    let fits : length (items_in whole) + length part ≤ desk.numbers + c.count_of-count.result = omega (arith, desk.few_numbers, c.count_of-count.ensures) in record {
      opened = desk.opened ∙ sym c.append_to.ensures.opening;
      few_parts = subst (λ l. length l ≤ desk.parts + 1) (sym grown) parts;
      few_numbers = subst (λ l. length (items_in l) ≤ desk.numbers + c.count_of-count.result) (sym grown) (joined_append_fits (desk.numbers + c.count_of-count.result) whole part fits);
    }
