use Rattle.std.proofs.Common.{Some, sym, ◌∙◌, ap, arith}
use Rattle.capture_board.specs.declared.deltas.StoredNode.{StoredNode}
use Rattle.node_paths.proofs.Ancestors.{parent-lt}
use Rattle.capture_board.proofs.StoredDeltas.{node_read, deltas_shown, within_shown, parent_shown}
use Rattle.capture_board.proofs.deltas.NodeDeltas.parent.Goals as goal

pub index-requires : goal.index-requires
index-requires c = omega (arith, c.self.inside.nodes.ok.0, within_shown _ _ _ _ c.self.view_is c.self.invariant c.args.n c.requires)

pub returns-else-n-eq0-clause-value : goal.returns-else-n-eq0-clause-value
returns-else-n-eq0-clause-value c =
    let within = within_shown _ _ _ _ c.self.view_is c.self.invariant c.args.n c.requires in
    ap (λ i. Some i) (c.from.ensures ∙ ap (λ (t : StoredNode). t.parent) (node_read _ c.args.n _ within c.index.ensures))
    ∙ parent_shown _ _ _ _ c.self.view_is c.self.invariant c.args.n c.if-n-eq0.false c.requires

pub returns-else-n-eq0-clause-before : goal.returns-else-n-eq0-clause-before
returns-else-n-eq0-clause-before c =
    parent-lt (deltas_shown _ _ _ _ c.self.view_is c.self.invariant).parents c.args.n c.from.result (sym (returns-else-n-eq0-clause-value c))
