use Rattle.std.proofs.Common.{◌≡◌, ◌⊎◌, ◌<◌, ℕ, List, length, slice_index, ap, sym, subst, arith}
use Rattle.kb_geometry.specs.Board.{point_count}
use Rattle.final_index.specs.Spans.{below_at}
use Rattle.final_index.proofs.GatheredNodes.{on_board}
use Rattle.final_index.proofs.NotedSpans.{AreSpansTo-more}
use Rattle.final_index.proofs.spans.Spans.add_node.Goals as goal

pub go_back-requires-clause-recent : goal.go_back-requires-clause-recent
go_back-requires-clause-recent c = λ p lt.
    let within : p < point_count c.args.deltas.now.shape = omega (arith, lt, c.requires.before.below_count) in
    subst (λ (end : ℕ). (below_at c.args.self.now p ≡ end) ⊎ (below_at c.args.self.now p < c.args.n)) (sym c.node_count-end.ensures.value) (c.requires.before.recent p within)

pub add_changes-requires-clause-stone_from : goal.add_changes-requires-clause-stone_from
add_changes-requires-clause-stone_from c = λ k d lt.
    omega (arith, on_board c.args.deltas.now c.changes.ensures.deltas c.args.n c.requires.in_range c.changes.result.now c.changes.ensures.value k d lt, c.requires.before.from_count, ap (λ (xs : List ℕ). length xs) c.go_back.ensures.from)

pub add_changes-requires-clause-empty_below : goal.add_changes-requires-clause-empty_below
add_changes-requires-clause-empty_below c = λ k d lt.
    omega (arith, on_board c.args.deltas.now c.changes.ensures.deltas c.args.n c.requires.in_range c.changes.result.now c.changes.ensures.value k d lt, c.requires.before.below_count, c.go_back.ensures.count)

pub returns : goal.returns
returns c =
    let deltas = c.args.deltas.now in
    let old = c.args.self.now in
    let mid = c.go_back.new.self in
    let end = c.node_count-end.ensures.value in
    AreSpansTo-more deltas c.changes.ensures.deltas c.args.n c.requires.in_range old mid c.add_changes.new.self c.requires.before
    (λ p. ap (λ (xs : List ℕ). slice_index xs p) c.go_back.ensures.from)
    (λ p lt. rw (← end, ← c.parent.ensures.value) (c.go_back.ensures.each p (omega (arith, lt, c.requires.before.below_count))))
    c.changes.result.now c.changes.ensures.value (rw end at c.add_changes.ensures)
    (ap (λ (xs : List ℕ). length xs) c.go_back.ensures.from) c.go_back.ensures.count
