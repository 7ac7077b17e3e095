use Rattle.capture_index.proofs.Narrowing.{found-cut}
use Rattle.capture_index.proofs.packed_runs.PackedRuns.find.Goals as goal

pub returns-clause-nodes : goal.returns-clause-nodes
returns-clause-nodes c =
    found-cut c.args.self.now c.args.base c.args.class.wants.now c.in-Some.hull c.in-Some.ensures.some c.clear.new.self.items c.push.new.self.items c.clear.ensures.items c.in_ok-push.ensures.items c.cut_all.new.found.items c.in_default-cut_all.ensures.nodes
