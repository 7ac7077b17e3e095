use Rattle.std.proofs.Common.{◌≡◌, ap, arith}
use Rattle.kb_geometry.specs.Board.{point_count}
use Rattle.candidate_sieve.proofs.BegunLists.{begun-end, begun-more, begun-start}
use Rattle.candidate_sieve.proofs.nodes.begun.Goals as goal

pub loop-point-init : goal.loop-point-init
loop-point-init c = begun-start c.args.runs.now c.args.points.now c.in_ok-nodes.nodes.items c.in_ok-nodes.ensures

pub loop-point-preserved : goal.loop-point-preserved
loop-point-preserved c = begun-more c.args.runs.now c.args.points.now c.loop-point.point c.loop-point.nodes.items c.add_begun.new.nodes.items c.loop-point.invariant c.in_ok-add_begun.ensures

pub returns : goal.returns
returns c =
    let all : c.loop-point.point ≡ point_count c.args.runs.now.shape = omega (arith, c.loop-point-test.false, c.loop-point.auto.point-end, c.count-point-end.ensures.value, ap point_count c.requires) in
    begun-end c.args.runs.now c.args.points.now c.loop-point.point c.loop-point.nodes.items all c.loop-point.invariant
