use Rattle.std.proofs.Common.{◌≡◌, true, false, sym, ◌∙◌, arith}
use Rattle.continuation_table.proofs.Finding.{earlier_place, later_number, no_earlier_place, no_later_number}
use Rattle.continuation_table.proofs.places.number_of_place.Goals as goal

pub loop-from-init : goal.loop-from-init
loop-from-init c = record {
  ordered = omega arith;
  within = omega (arith, c.len-to.ensures.value);
  between = λ i lt is. (omega arith, omega (arith, lt, c.len-to.ensures.value));
  before = λ i other lt. absurd (omega (arith, lt));
  behind = λ i other from lt. absurd (omega (arith, from, lt, c.len-to.ensures.value));
}

pub loop-from-preserved-then-is_before : goal.loop-from-preserved-then-is_before
loop-from-preserved-then-is_before c = record {
  ordered = omega (arith, c.loop-from-test.true);
  within = c.loop-from.invariant.within;
  between = λ i lt is. (
    let later = later_number c.args.images.now.placements c.len-to.ensures.images.ordered _ (omega (arith, c.loop-from-test.true, c.loop-from.invariant.within)) c.place.result c.args.place c.place.ensures.value i lt is (c.is_before.ensures.0 c.if-is_before.true) in
        omega (arith, later),
    (c.loop-from.invariant.between i lt is).1,
  );
  before = λ i other lt is.
      earlier_place c.args.images.now.placements c.len-to.ensures.images.ordered _ (omega (arith, c.loop-from-test.true, c.loop-from.invariant.within)) c.place.result c.args.place c.place.ensures.value i (omega (arith, lt, c.loop-from-test.true, c.loop-from.invariant.within)) other is
      (c.is_before.ensures.0 c.if-is_before.true) (omega (arith, lt));
  behind = c.loop-from.invariant.behind;
}

pub loop-from-preserved : goal.loop-from-preserved
loop-from-preserved c = record {
  ordered = omega arith;
  within = omega (arith, c.loop-from-test.true, c.loop-from.invariant.within);
  between = λ i lt is. (
    (c.loop-from.invariant.between i lt is).0,
    no_later_number c.args.images.now.placements c.len-to.ensures.images.ordered _ (omega (arith, c.loop-from-test.true, c.loop-from.invariant.within)) c.place.result c.args.place c.place.ensures.value i lt is
        (λ before. let no : false ≡ true = sym c.if-is_before.false ∙ c.is_before.ensures.1 before in absurd cc),
  );
  before = c.loop-from.invariant.before;
  behind = λ i other from lt is.
      no_earlier_place c.args.images.now.placements c.len-to.ensures.images.ordered _ (omega (arith, c.loop-from-test.true, c.loop-from.invariant.within)) c.place.result c.args.place c.place.ensures.value i lt other is
      (λ before. let no : false ≡ true = sym c.if-is_before.false ∙ c.is_before.ensures.1 before in absurd cc) from;
}

pub returns-clause-before : goal.returns-clause-before
returns-clause-before c = record {
  most = omega (arith, c.loop-from.invariant.ordered, c.loop-from.invariant.within);
  before = c.loop-from.invariant.before;
  from = λ i other from lt is. c.loop-from.invariant.behind i other (omega (arith, from, c.loop-from-test.false)) lt is;
}
