-- The first node of the stretch, and those at branches behind it.
use Rattle.std.specs.Prelude.{Contains}
use Rattle.kb_geometry.proofs.Prefixes.{prefix_trans}
use Rattle.capture_index.proofs.BegunNodes.{stretch-begun}
use Rattle.capture_index.proofs.begins.push_stretch.Goals as goal

pub returns-clause-begun : goal.returns-clause-begun
returns-clause-begun c x =
    stretch-begun c.args.branches.now c.args.stretches.now c.args.stretch c.requires.ascending c.requires.one c.requires.some x c.parent.result (Contains c.args.nodes.now.items x) (Contains c.push_node.new.nodes.items x) (Contains c.push_behind.new.nodes.items x)
    c.parent.ensures.value (c.in_ok-push_node.ensures.begun x) (c.in_ok-push_behind.ensures.begun x)

pub returns-clause-kept : goal.returns-clause-kept
returns-clause-kept c = prefix_trans c.args.nodes.now.items c.push_node.new.nodes.items c.push_behind.new.nodes.items c.in_ok-push_node.ensures.kept c.in_ok-push_behind.ensures.kept

pub returns-in_err-push_behind-clause-kept : goal.returns-in_err-push_behind-clause-kept
returns-in_err-push_behind-clause-kept c = prefix_trans c.args.nodes.now.items c.push_node.new.nodes.items c.push_behind.new.nodes.items c.in_ok-push_node.ensures.kept c.in_err-push_behind.ensures.kept
