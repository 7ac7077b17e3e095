use Rattle.std.proofs.Common.{◌≡◌, true, false, sym, ◌∙◌, arith}
use Rattle.continuation_table.proofs.RowOrder.{before_until, not_before_from}
use Rattle.continuation_table.proofs.rows.place_in.Goals as goal

pub loop-from-preserved-then-is_before : goal.loop-from-preserved-then-is_before
loop-from-preserved-then-is_before c = record {
  ordered = omega (arith, c.loop-from-test.true);
  within = c.loop-from.invariant.within;
  before = λ k d lt. before_until c.args.rows.now c.requires c.args.new _ _ (omega (arith, c.loop-from-test.true, c.loop-from.invariant.within)) (c.is_before.ensures.0 c.if-is_before.true) k d (omega arith);
  rest = c.loop-from.invariant.rest;
}

pub loop-from-preserved : goal.loop-from-preserved
loop-from-preserved c = record {
  ordered = omega arith;
  within = omega (arith, c.loop-from-test.true, c.loop-from.invariant.within);
  before = c.loop-from.invariant.before;
  rest = λ k d le lt. not_before_from c.args.rows.now c.requires c.args.new _ _ (λ h. let no : false ≡ true = sym c.if-is_before.false ∙ c.is_before.ensures.1 h in absurd cc) k d le lt;
}
