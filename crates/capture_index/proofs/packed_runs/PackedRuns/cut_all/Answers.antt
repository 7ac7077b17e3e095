use Rattle.std.proofs.Common.{ℕ, ◌+◌, length, ◌≡◌, arith, subst, sym}
use Rattle.std.proofs.lemmas.Bool.{eqb-true}
use Rattle.capture_index.specs.Finding.{IsCutBy}
use Rattle.capture_index.proofs.Narrowing.{IsCutBy-empty, IsCutBy-more}
use Rattle.capture_index.proofs.packed_runs.PackedRuns.cut_all.Goals as goal

pub loop-want-preserved : goal.loop-want-preserved
loop-want-preserved c = record {
  cut = IsCutBy-more c.args.self.now c.args.base c.args.wants.now c.loop-want.want-index c.loop-want-test.true c.args.found.now.items c.loop-want.found.items c.cut_want.new.found.items c.loop-want.invariant.cut c.in_ok-cut_want.ensures.nodes;
  apart = c.in_ok-cut_want.ensures.apart;
}

pub returns-then-is_empty-clause-nodes : goal.returns-then-is_empty-clause-nodes
returns-then-is_empty-clause-nodes c =
    IsCutBy-empty c.args.self.now c.args.base c.args.wants.now (c.loop-want.want-index + 1) (omega (arith, c.loop-want-test.true)) c.args.found.now.items c.cut_want.new.found.items (omega (arith, eqb-true _ 0 (sym c.if-is_empty.ensures), c.cut_want.new.found.ok))
    (IsCutBy-more c.args.self.now c.args.base c.args.wants.now c.loop-want.want-index c.loop-want-test.true c.args.found.now.items c.loop-want.found.items c.cut_want.new.found.items c.loop-want.invariant.cut c.in_ok-cut_want.ensures.nodes)

pub returns-clause-nodes : goal.returns-clause-nodes
returns-clause-nodes c =
    let all : c.loop-want.want-index ≡ length c.args.wants.now = omega arith in
    subst (λ (i : ℕ). IsCutBy c.args.self.now c.args.base c.args.wants.now i c.args.found.now.items c.loop-want.found.items) all c.loop-want.invariant.cut
