use Rattle.std.proofs.Common.{List, subst, sym}
use Rattle.capture_index.specs.declared.run.Branch.{Branch}
use Rattle.capture_index.specs.Begins.{HasBegun}
use Rattle.capture_index.specs.Branches.{AreAscending}
use Rattle.capture_index.proofs.packed_runs.PackedRuns.push_begins.Goals as goal

pub push_begins-requires-clause-ascending : goal.push_begins-requires-clause-ascending
push_begins-requires-clause-ascending c = subst (λ (bs : List Branch). AreAscending bs) (sym c.branches.ensures) c.args.self.now.ascending

pub returns-clause-begun : goal.returns-clause-begun
returns-clause-begun c = subst (λ (bs : List Branch). HasBegun bs c.args.stretches.now c.args.nodes.now.items c.push_begins.new.nodes.items) c.branches.ensures c.in_ok-push_begins.ensures.begun
