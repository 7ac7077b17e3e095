-- One stretch more.
use Rattle.std.proofs.Common.{get_or, arith}
use Rattle.std.specs.Prelude.{Contains}
use Rattle.std.proofs.lemmas.List.{get_or_default}
use Rattle.kb_geometry.proofs.Prefixes.{prefix_same, prefix_trans}
use Rattle.capture_index.specs.declared.stretch.Stretch.{Stretch}
use Rattle.capture_index.proofs.BegunNodes.{begun-end, begun-more, begun-start}
use Rattle.capture_index.proofs.begins.push_begins.Goals as goal

abbrev no_stretch : Stretch
no_stretch = record { from = 0; to = 0 }

pub loop-stretch-init : goal.loop-stretch-init
loop-stretch-init c = record {
  begun = λ x. begun-start c.args.branches.now c.args.stretches.now x (Contains c.args.nodes.now.items x);
  kept = prefix_same c.args.nodes.now.items;
}

pub loop-stretch-preserved : goal.loop-stretch-preserved
loop-stretch-preserved c = record {
  begun = λ x.
      begun-more c.args.branches.now c.args.stretches.now x (Contains c.args.nodes.now.items x) c.loop-stretch.stretch-index (get_or c.args.stretches.now c.loop-stretch.stretch-index no_stretch) (Contains c.loop-stretch.nodes.items x) (Contains c.push_stretch.new.nodes.items x)
      c.loop-stretch-test.true (λ d. get_or_default c.args.stretches.now c.loop-stretch.stretch-index no_stretch d c.loop-stretch-test.true) (c.loop-stretch.invariant.begun x) (c.in_ok-push_stretch.ensures.begun x);
  kept = prefix_trans c.args.nodes.now.items c.loop-stretch.nodes.items c.push_stretch.new.nodes.items c.loop-stretch.invariant.kept c.in_ok-push_stretch.ensures.kept;
}

pub returns-clause-begun : goal.returns-clause-begun
returns-clause-begun c x =
    begun-end c.args.branches.now c.args.stretches.now x (Contains c.args.nodes.now.items x) c.loop-stretch.stretch-index (Contains c.loop-stretch.nodes.items x) (omega arith) (c.loop-stretch.invariant.begun x)

pub returns-in_err-push_stretch-clause-kept : goal.returns-in_err-push_stretch-clause-kept
returns-in_err-push_stretch-clause-kept c = prefix_trans c.args.nodes.now.items c.loop-stretch.nodes.items c.push_stretch.new.nodes.items c.loop-stretch.invariant.kept c.in_err-push_stretch.ensures.kept
