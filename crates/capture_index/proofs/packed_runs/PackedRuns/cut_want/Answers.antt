use Rattle.capture_index.proofs.BegunNodes.{falling-apart}
use Rattle.capture_index.proofs.Narrowing.{IsCutAt-list}
use Rattle.capture_index.proofs.packed_runs.PackedRuns.cut_want.Goals as goal

pub cut-requires : goal.cut-requires
cut-requires c = falling-apart c.args.self.now.nodes c.args.found.now.items c.requires.apart

pub returns-clause-nodes : goal.returns-clause-nodes
returns-clause-nodes c =
    IsCutAt-list c.args.self.now c.args.base c.args.want c.in-Some.runs.now c.in-Some.ensures.some.1 c.in-Some.ensures.some.0 c.args.found.now.items c.cut.new.found.items c.in_ok-cut.ensures.nodes
