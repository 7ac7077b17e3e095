use Rattle.std.proofs.Common.{ℕ, ◌+◌, arith, sym, subst}
use Rattle.std.proofs.Math.Nat.{min-le_right}
use Rattle.capture_index.specs.Hulls.{IsHullTo}
use Rattle.capture_index.specs.Lists.{IsWantedBy}
use Rattle.capture_index.specs.Runs.{AreToldBehind}
use Rattle.capture_index.proofs.Hulls.{cells-before, run-cells, told-next}
use Rattle.capture_index.proofs.by_lists.hull_of.Goals as goal

pub loop-run-preserved : goal.loop-run-preserved
loop-run-preserved c = record {
  hull = subst (λ (low : ℕ). IsHullTo (IsWantedBy c.args.want c.args.runs.now) c.args.end low c.with_piece-hull.result) (sym c.min-next.ensures)
      (c.with_piece-hull.ensures c.args.want c.args.runs.now c.args.end c.loop-run.invariant.hull (run-cells c.args.runs.now c.args.want c.loop-run.run-index c.loop-run.next c.loop-run.invariant.behind _ c.from-first.result c.is_wanted.result c.loop-run-test.true c.from-first.ensures c.is_wanted.ensures));
  behind = subst (AreToldBehind c.args.runs.now (c.loop-run.run-index + 1)) (sym c.min-next.ensures)
      (told-next c.args.runs.now c.args.want c.loop-run.run-index c.loop-run.next c.loop-run.invariant.behind _ c.from-first.result c.loop-run-test.true c.from-first.ensures);
}

pub returns-then-next-start-clause-kept : goal.returns-then-next-start-clause-kept
returns-then-next-start-clause-kept c n le lt =
    (c.with_piece-hull.ensures c.args.want c.args.runs.now c.args.end c.loop-run.invariant.hull (run-cells c.args.runs.now c.args.want c.loop-run.run-index c.loop-run.next c.loop-run.invariant.behind _ c.from-first.result c.is_wanted.result c.loop-run-test.true c.from-first.ensures c.is_wanted.ensures)).kept n (omega (arith, le, c.if-next-start.true, c.min-next.ensures)) lt

pub returns-then-next-start-clause-whole : goal.returns-then-next-start-clause-whole
returns-then-next-start-clause-whole c =
    (c.with_piece-hull.ensures c.args.want c.args.runs.now c.args.end c.loop-run.invariant.hull (run-cells c.args.runs.now c.args.want c.loop-run.run-index c.loop-run.next c.loop-run.invariant.behind _ c.from-first.result c.is_wanted.result c.loop-run-test.true c.from-first.ensures c.is_wanted.ensures)).whole

pub returns-then-next-start-clause-from : goal.returns-then-next-start-clause-from
returns-then-next-start-clause-from c =
    let now = c.with_piece-hull.ensures c.args.want c.args.runs.now c.args.end c.loop-run.invariant.hull (run-cells c.args.runs.now c.args.want c.loop-run.run-index c.loop-run.next c.loop-run.invariant.behind _ c.from-first.result c.is_wanted.result c.loop-run-test.true c.from-first.ensures c.is_wanted.ensures) in omega (arith, now.ordered, now.below)

pub returns-then-next-start-clause-to : goal.returns-then-next-start-clause-to
returns-then-next-start-clause-to c =
    (c.with_piece-hull.ensures c.args.want c.args.runs.now c.args.end c.loop-run.invariant.hull (run-cells c.args.runs.now c.args.want c.loop-run.run-index c.loop-run.next c.loop-run.invariant.behind _ c.from-first.result c.is_wanted.result c.loop-run-test.true c.from-first.ensures c.is_wanted.ensures)).below

pub returns-clause-kept : goal.returns-clause-kept
returns-clause-kept c n le lt =
    (c.with_piece.ensures c.args.want c.args.runs.now c.args.end c.loop-run.invariant.hull (cells-before c.args.runs.now c.args.want c.loop-run.run-index c.loop-run.next c.loop-run.invariant.behind c.is_wanted-2.result c.is_wanted-2.ensures (omega (arith, c.loop-run-test.false)))).kept n (omega (arith, min-le_right c.loop-run.next 0)) lt

pub returns-clause-whole : goal.returns-clause-whole
returns-clause-whole c =
    (c.with_piece.ensures c.args.want c.args.runs.now c.args.end c.loop-run.invariant.hull (cells-before c.args.runs.now c.args.want c.loop-run.run-index c.loop-run.next c.loop-run.invariant.behind c.is_wanted-2.result c.is_wanted-2.ensures (omega (arith, c.loop-run-test.false)))).whole

pub returns-clause-from : goal.returns-clause-from
returns-clause-from c =
    let now = c.with_piece.ensures c.args.want c.args.runs.now c.args.end c.loop-run.invariant.hull (cells-before c.args.runs.now c.args.want c.loop-run.run-index c.loop-run.next c.loop-run.invariant.behind c.is_wanted-2.result c.is_wanted-2.ensures (omega (arith, c.loop-run-test.false))) in omega (arith, now.ordered, now.below)

pub returns-clause-to : goal.returns-clause-to
returns-clause-to c =
    (c.with_piece.ensures c.args.want c.args.runs.now c.args.end c.loop-run.invariant.hull (cells-before c.args.runs.now c.args.want c.loop-run.run-index c.loop-run.next c.loop-run.invariant.behind c.is_wanted-2.result c.is_wanted-2.ensures (omega (arith, c.loop-run-test.false)))).below
