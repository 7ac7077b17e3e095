use Rattle.std.proofs.Common.{ℕ, length, ◌∙◌, ap, arith}
use Rattle.std.specs.List.{between}
use Rattle.capture_board.specs.StoredDeltas.{changes_end, stored_node, changes_start}
use Rattle.capture_board.proofs.StoredDeltas.{count_shown, deltas_shown, within_shown, changes_shown, changes_fit, start_fits}
use Rattle.capture_board.proofs.deltas.NodeDeltas.changes.Goals as goal

pub changes_start-start-requires : goal.changes_start-start-requires
changes_start-start-requires c = omega (arith, ap length c.as_slice-nodes.ensures.value, within_shown _ _ _ _ c.self.view_is c.self.invariant c.args.n c.requires)

pub bounds-nodes-n : goal.bounds-nodes-n
bounds-nodes-n c = omega (arith, ap length c.as_slice-nodes.ensures.value, within_shown _ _ _ _ c.self.view_is c.self.invariant c.args.n c.requires)

pub slice_bounds-result-count : goal.slice_bounds-result-count
slice_bounds-result-count c =
    let within = within_shown _ _ _ _ c.self.view_is c.self.invariant c.args.n c.requires in
    let same = c.as_slice-nodes.ensures.value in
    omega (arith, c.changes_start-start.ensures, ap (λ (ts : _). changes_start ts c.args.n) same, ap (λ (ts : _). changes_end (stored_node ts c.args.n)) same, c.self.invariant.ends.parts.starts c.args.n within)

pub slice_bounds-result-start : goal.slice_bounds-result-start
slice_bounds-result-start c =
    let within = within_shown _ _ _ _ c.self.view_is c.self.invariant c.args.n c.requires in
    let same = c.as_slice-nodes.ensures.value in
    omega (arith, c.changes_start-start.ensures, ap (λ (ts : _). changes_start ts c.args.n) same, ap (λ (ts : _). changes_end (stored_node ts c.args.n)) same, c.self.invariant.ends.parts.starts c.args.n within, c.self.invariant.ends.parts.ends c.args.n within)

pub returns-clause-value : goal.returns-clause-value
returns-clause-value c =
    let same = c.as_slice-nodes.ensures.value in
    ap (λ (cs : _). between c.changes_start-start.result c.changes_end-end.result cs) c.deref.ensures.value
    ∙ ap (λ (n : ℕ). between c.changes_start-start.result n c.self.inside.changes.items) c.changes_end-end.ensures
    ∙ ap (λ (n : ℕ). between n (changes_end (stored_node c.as_slice-nodes.result.now c.args.n)) c.self.inside.changes.items) c.changes_start-start.ensures
    ∙ ap (λ (ts : _). between (changes_start ts c.args.n) (changes_end (stored_node ts c.args.n)) c.self.inside.changes.items) same
    ∙ changes_shown _ _ _ _ c.self.view_is c.self.invariant c.args.n c.requires

pub returns-clause-changes : goal.returns-clause-changes
returns-clause-changes c = changes_fit _ _ _ _ c.self.view_is c.self.invariant c.args.n _ c.requires (returns-clause-value c)

pub offset_bounds-deref-start : goal.offset_bounds-deref-start
offset_bounds-deref-start c =
    let within = within_shown _ _ _ _ c.self.view_is c.self.invariant c.args.n c.requires in
    let d = deltas_shown _ _ _ _ c.self.view_is c.self.invariant in
    let count = count_shown _ _ _ _ c.self.view_is c.self.invariant in
    let fits = start_fits _ _ c.args.n c.self.invariant.ends (omega (arith, d.most, count)) within in
    omega (arith, c.changes_start-start.ensures, ap (λ (ts : _). changes_start ts c.args.n) c.as_slice-nodes.ensures.value, fits)
