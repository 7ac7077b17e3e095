use Rattle.std.proofs.Common.{arith}
use Rattle.capture_index.proofs.BegunNodes.{falling-apart}
use Rattle.capture_index.proofs.Told.{begun-seen, nodes-seen}
use Rattle.capture_index.proofs.run_index.RunIndex.push_begins.Goals as goal

pub push_begins-requires : goal.push_begins-requires
push_begins-requires c = falling-apart _ c.args.stretches.now c.requires

pub returns-clause-most : goal.returns-clause-most
returns-clause-most c = omega (arith, c.self.inside.packed.few, nodes-seen c.self.inside.packed c.args.self.now c.self.view_is)

pub returns-in_err-push_begins-clause-most : goal.returns-in_err-push_begins-clause-most
returns-in_err-push_begins-clause-most c = omega (arith, c.self.inside.packed.few, nodes-seen c.self.inside.packed c.args.self.now c.self.view_is)

pub returns-clause-begun : goal.returns-clause-begun
returns-clause-begun c = begun-seen c.self.inside.packed c.args.self.now c.self.view_is c.args.stretches.now c.args.nodes.now.items c.push_begins.new.nodes.items c.requires c.in_ok-push_begins.ensures.begun
