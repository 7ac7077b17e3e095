use Rattle.std.proofs.Common.{◌≡◌, ℕ, List, length, slice_index, ap, ◌∙◌, subst, arith}
use Rattle.std.proofs.lemmas.List.{get_or-replicate, length-replicate}
use Rattle.kb_geometry.specs.Board.{point_count}
use Rattle.capture_board.specs.Deltas.{node_count}
use Rattle.final_index.specs.Spans.{AreSpansTo}
use Rattle.final_index.proofs.NotedSpans.{AreSpansTo-start}
use Rattle.final_index.proofs.spans.Spans.of.Goals as goal

pub loop-n-init : goal.loop-n-init
loop-n-init c =
    let deltas = c.args.deltas.now in
    let end = c.node_count-end.result in
    let count = c.from-points.result in
    let points : count ≡ point_count deltas.shape = c.from-points.ensures ∙ c.count.ensures.value ∙ ap point_count c.shape.ensures.value in
    let from = c.in_ok-stone_from.ensures.items_if_clones_equal (λ y e. e) in
    let below = c.in_ok-empty_below.ensures.items_if_clones_equal (λ y e. e) in
    AreSpansTo-start deltas c.shape.ensures.deltas (record { stone_from = c.in_ok-stone_from.stone_from; empty_below = c.in_ok-empty_below.empty_below })
    (ap length from ∙ length-replicate {A = ℕ} count end ∙ points) (ap length below ∙ length-replicate {A = ℕ} count end ∙ points)
    (λ p lt. ap (λ (xs : List ℕ). slice_index xs p) below ∙ get_or-replicate {A = ℕ} count p end 0 (omega (arith, lt, points)) ∙ c.node_count-end.ensures.value)

pub returns : goal.returns
returns c =
    let all : c.loop-n.n ≡ node_count c.args.deltas.now = omega (arith, c.loop-n-test.false, c.loop-n.auto.n-end, c.node_count-end.ensures.value) in
    subst (λ (n : ℕ). AreSpansTo c.args.deltas.now n c.loop-n.spans) all c.loop-n.invariant
