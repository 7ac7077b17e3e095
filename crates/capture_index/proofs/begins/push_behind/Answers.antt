-- One branch more.
use Rattle.std.proofs.Common.{get_or, arith}
use Rattle.std.specs.Prelude.{Contains}
use Rattle.std.proofs.lemmas.List.{get_or_default}
use Rattle.kb_geometry.proofs.Prefixes.{prefix_same, prefix_trans}
use Rattle.capture_index.specs.declared.run.Branch.{Branch}
use Rattle.capture_index.proofs.BegunNodes.{behind-more, behind-none, behind-past, later-branches}
use Rattle.capture_index.proofs.begins.push_behind.Goals as goal

abbrev no_branch : Branch
no_branch = record { node = 0; parent = 0 }

pub loop-at-init : goal.loop-at-init
loop-at-init c = record {
  begun = λ x. behind-none c.args.branches.now c.args.stretches.now c.args.stretch c.first_at-at.result x (Contains c.args.nodes.now.items x) c.first_at-at.ensures;
  kept = prefix_same c.args.nodes.now.items;
}

pub loop-at-preserved : goal.loop-at-preserved
loop-at-preserved c = record {
  begun = λ x.
      let b = get_or c.args.branches.now c.loop-at.at no_branch in
      let behind = c.first_at-at.ensures.from c.loop-at.at no_branch c.loop-at.auto.at c.loop-at-test.true in
      behind-more c.args.branches.now c.args.stretches.now c.args.stretch c.loop-at.at x c.from-in-loop-at-2.result c.from-in-loop-at.result b (Contains c.args.nodes.now.items x) (Contains c.loop-at.nodes.items x) (Contains c.push_node.new.nodes.items x)
      c.loop-at-test.true (λ d. get_or_default c.args.branches.now c.loop-at.at no_branch d c.loop-at-test.true) c.from-in-loop-at-2.ensures c.from-in-loop-at.ensures (omega (arith, behind)) (omega (arith, c.from.ensures, c.if-from-stretch.false))
      (c.loop-at.invariant.begun x) (c.in_ok-push_node.ensures.begun x);
  kept = prefix_trans c.args.nodes.now.items c.loop-at.nodes.items c.push_node.new.nodes.items c.loop-at.invariant.kept c.in_ok-push_node.ensures.kept;
}

pub returns-then-from-stretch-clause-begun : goal.returns-then-from-stretch-clause-begun
returns-then-from-stretch-clause-begun c x =
    let b = get_or c.args.branches.now c.loop-at.at no_branch in
    behind-past c.args.branches.now c.args.stretches.now c.args.stretch c.loop-at.at x (Contains c.args.nodes.now.items x) (Contains c.loop-at.nodes.items x)
    (later-branches c.args.branches.now c.loop-at.at b c.args.stretch.to c.requires.ascending (λ d. get_or_default c.args.branches.now c.loop-at.at no_branch d c.loop-at-test.true) (omega (arith, c.from.ensures, c.if-from-stretch.true)))
    (omega (arith, c.loop-at-test.true)) (c.loop-at.invariant.begun x)

pub returns-in_err-push_node-clause-kept : goal.returns-in_err-push_node-clause-kept
returns-in_err-push_node-clause-kept c = prefix_trans c.args.nodes.now.items c.loop-at.nodes.items c.push_node.new.nodes.items c.loop-at.invariant.kept c.in_err-push_node.ensures.kept

pub returns-clause-begun : goal.returns-clause-begun
returns-clause-begun c x =
    behind-past c.args.branches.now c.args.stretches.now c.args.stretch c.loop-at.at x (Contains c.args.nodes.now.items x) (Contains c.loop-at.nodes.items x) (λ k d from lt. absurd (omega arith)) (c.loop-at.auto.at-end c.first_at-at.ensures.most) (c.loop-at.invariant.begun x)
