use Rattle.std.proofs.Common.{ℕ, List, subst, arith}
use Rattle.capture_index.specs.declared.run.Branch.{Branch}
use Rattle.capture_index.specs.Branches.{parent_by}
use Rattle.capture_index.specs.Seen.{GoesOnTo}
use Rattle.capture_index.proofs.Told.{goes-seen, nodes-seen}
use Rattle.capture_index.proofs.run_index.RunIndex.next_branch.Goals as goal

pub next_branch-requires-clause-in_range : goal.next_branch-requires-clause-in_range
next_branch-requires-clause-in_range c = omega (arith, c.requires, c.node_count.ensures.value, nodes-seen c.self.inside.packed c.args.self.now c.self.view_is)

pub returns : goal.returns
returns c =
    goes-seen c.self.inside.packed c.args.self.now c.self.view_is c.args.node c.next_branch.result
    (subst (λ (n : ℕ). GoesOnTo (parent_by c.self.inside.packed.branches.items) n c.args.node c.next_branch.result) c.node_count.ensures.value
    (subst (λ (bs : List Branch). GoesOnTo (parent_by bs) c.node_count.result c.args.node c.next_branch.result) c.branches.ensures c.next_branch.ensures))
