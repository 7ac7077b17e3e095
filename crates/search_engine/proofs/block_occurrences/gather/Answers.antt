use Rattle.std.proofs.Common.{arith, subst, sym}
use Rattle.final_index.specs.Planes.{PlaneGames}
use Rattle.segment_store.specs.Planes.{ArePlanesOn}
use Rattle.search_engine.proofs.GatheredBlocks.{on_planes-all, on_planes-more, on_planes-start}
use Rattle.search_engine.proofs.GoingOn.{all-none}
use Rattle.search_engine.proofs.block_occurrences.gather.Goals as goal

pub loop-planes-init : goal.loop-planes-init
loop-planes-init c = record {
  gathered = on_planes-start c.args.ready.now.query c.args.ready.now.shapes c.args.block.now c.args.games c.planes-planes-items.result.now c.clear.new.self c.clear.ensures;
  go_on = all-none c.args.ready.now.query c.args.block.now c.clear.new.self c.clear.ensures;
}

pub loop-planes-preserved : goal.loop-planes-preserved
loop-planes-preserved c = record {
  gathered =
      on_planes-more c.args.ready.now.query c.args.ready.now.shapes c.args.block.now c.args.games c.planes-planes-items.result.now c.loop-planes.planes-index c.planes-item.result c.loop-planes.room.gathered c.gather_on_shape.new.room.gathered c.loop-planes-test.true c.planes-item.is
      c.loop-planes.invariant.gathered c.in_ok-gather_on_shape.ensures.gathered;
  go_on = c.in_ok-gather_on_shape.ensures.go_on c.loop-planes.invariant.go_on;
}

pub gather_on_shape-requires : goal.gather_on_shape-requires
gather_on_shape-requires c =
    let p : PlaneGames = c.planes-item.result in
    subst (λ (q : PlaneGames). ArePlanesOn c.args.block.now q) (sym c.planes-item.is) (c.planes-planes-items.ensures.value.each c.loop-planes.planes-index p c.loop-planes-test.true)

pub returns-clause-gathered : goal.returns-clause-gathered
returns-clause-gathered c = λ filter skip accepted.
    on_planes-all c.args.ready.now.query c.args.ready.now.shapes c.args.block.now c.args.games c.planes-planes-items.result.now c.loop-planes.planes-index (omega (arith, c.loop-planes-test.false)) c.planes-planes-items.ensures.value c.planes-planes-items.ensures.few filter skip c.loop-planes.room.gathered accepted c.loop-planes.invariant.gathered
