use Rattle.std.proofs.Common.{sym, ◌∙◌, ◌<◌, length, get_or, arith}
use Rattle.std.proofs.lemmas.List.{get_or_default}
use Rattle.capture_index.specs.declared.run.Branch.{Branch}
use Rattle.capture_index.proofs.Branchings.{none-here, none-past, parent-at, parent-none}
use Rattle.capture_index.proofs.branches.parent.Goals as goal

abbrev no_branch : Branch
no_branch = record { node = 0; parent = 0 }

pub returns-then-at-branches-clause-value : goal.returns-then-at-branches-clause-value
returns-then-at-branches-clause-value c = parent-none c.args.branches.now c.args.node (omega arith) (none-past c.args.branches.now c.args.node c.first_at-at.result c.requires c.first_at-at.ensures (omega arith))

pub returns-then-from-node-clause-value : goal.returns-then-from-node-clause-value
returns-then-from-node-clause-value c =
    parent-at c.args.branches.now c.args.node c.first_at-at.result no_branch c.from-then-from-node.result (omega arith) c.requires (omega (arith, c.first_at-at.ensures.most, c.if-at-branches.false)) (sym c.from.ensures ∙ c.if-from-node.true) c.from-then-from-node.ensures

pub returns-else-from-node-clause-value : goal.returns-else-from-node-clause-value
returns-else-from-node-clause-value c =
    let within : c.first_at-at.result < length c.args.branches.now = omega (arith, c.first_at-at.ensures.most, c.if-at-branches.false) in
    parent-none c.args.branches.now c.args.node (omega arith) (none-here c.args.branches.now c.args.node c.first_at-at.result c.requires c.first_at-at.ensures (get_or c.args.branches.now c.first_at-at.result no_branch) within (λ d. get_or_default c.args.branches.now c.first_at-at.result no_branch d within) (λ e. c.if-from-node.false (c.from.ensures ∙ e)))
