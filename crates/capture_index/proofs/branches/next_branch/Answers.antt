use Rattle.std.proofs.Common.{◌∙◌, ap, ◌<◌, length, get_or, arith}
use Prim.Native.Nat.{min}
use Rattle.std.proofs.lemmas.List.{get_or_default}
use Rattle.capture_index.specs.declared.run.Branch.{Branch}
use Rattle.capture_index.proofs.Branchings.{goes_on-here, goes_on-past}
use Rattle.capture_index.proofs.branches.next_branch.Goals as goal

abbrev no_branch : Branch
no_branch = record { node = 0; parent = 0 }

pub returns-then-at-branches : goal.returns-then-at-branches
returns-then-at-branches c = goes_on-past c.args.branches.now c.args.nodes c.args.node c.first_at-at.result c.requires.ascending c.first_at-at.ensures c.requires.in_range (omega arith)

pub returns : goal.returns
returns c =
    let within : c.first_at-at.result < length c.args.branches.now = omega (arith, c.first_at-at.ensures.most, c.if-at-branches.false) in
    goes_on-here c.args.branches.now c.args.nodes c.args.node c.first_at-at.result c.requires.ascending c.first_at-at.ensures (get_or c.args.branches.now c.first_at-at.result no_branch) c.min.result c.requires.in_range within (λ d. get_or_default c.args.branches.now c.first_at-at.result no_branch d within) (c.min.ensures ∙ ap (min c.args.nodes) c.from.ensures)
