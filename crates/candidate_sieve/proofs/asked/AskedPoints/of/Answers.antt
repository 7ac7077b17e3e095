use Rattle.std.proofs.Common.{◌≡◌, ℕ, ◌↔◌, length, subst, arith}
use Rattle.std.specs.Prelude.{Contains}
use Rattle.kb_geometry.specs.declared.stone.Cell.{Cell}
use Rattle.pattern_images.specs.ImageList.{placement_at}
use Rattle.candidate_sieve.specs.declared.asked.AskedPoints.{AskedPoints}
use Rattle.candidate_sieve.specs.NodeCandidates.{AsksThere, noted}
use Rattle.candidate_sieve.proofs.NotedPoints.{AsksBelow, from_none, from_none-more}
use Rattle.candidate_sieve.proofs.asked.AskedPoints.of.Goals as goal

pub loop-i-init : goal.loop-i-init
loop-i-init c =
    let points : AskedPoints = record { empty = c.empty.result; black = c.empty-2.result; white = c.empty-3.result } in
    from_none (λ i. AsksThere c.args.images.now.shape (placement_at c.args.images.now.placements i)) points c.empty.ensures c.empty-2.ensures c.empty-3.ensures

pub loop-i-preserved : goal.loop-i-preserved
loop-i-preserved c =
    from_none-more (λ i. AsksThere c.args.images.now.shape (placement_at c.args.images.now.placements i)) c.loop-i.points c.add_placement.new.self c.loop-i.i c.loop-i.invariant c.add_placement.ensures

pub returns : goal.returns
returns c =
    let images = c.args.images.now in
    let all : c.loop-i.i ≡ length images.placements = omega (arith, c.loop-i-test.false, c.loop-i.auto.i-end, c.len-i-end.ensures.value) in
    subst (λ (n : ℕ). (d : Cell) (p : ℕ) → Contains (noted c.loop-i.points d) p ↔ AsksBelow (λ i. AsksThere images.shape (placement_at images.placements i)) n p d) all c.loop-i.invariant
