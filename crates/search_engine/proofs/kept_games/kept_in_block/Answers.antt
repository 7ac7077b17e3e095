use Rattle.std.proofs.Common.{ap, arith, length, subst, sym}
use Rattle.final_index.specs.Planes.{PlaneGames}
use Rattle.segment_store.specs.Planes.{ArePlanesOn}
use Rattle.search_engine.proofs.KeptBlocks.{kept-in_block, kept-more, kept-start}
use Rattle.search_engine.specs.KeptBlocks.{AreCornersOf}
use Rattle.search_engine.proofs.kept_games.kept_in_block.Goals as goal

pub loop-planes-init : goal.loop-planes-init
loop-planes-init c = kept-start c.args.ready.now.query c.args.ready.now.shapes c.args.block.now c.planes-planes-items.result.now

pub loop-planes-preserved : goal.loop-planes-preserved
loop-planes-preserved c =
    let query = c.args.ready.now.query in
    let shapes = c.args.ready.now.shapes in
    let planes = c.planes-planes-items.result.now in
    let k = c.loop-planes.planes-index in
    let p : PlaneGames = c.planes-item.result in
    let on = subst (λ (q : PlaneGames). ArePlanesOn c.args.block.now q) (sym c.planes-item.is) (c.planes-planes-items.ensures.value.each k p c.loop-planes-test.true) in
    let corners = subst (λ ks. AreCornersOf c.args.block.now ks) (sym c.deref.ensures.value) c.in_ok-corners.ensures in
    kept-more query shapes c.args.block.now c.deref.result.now corners planes k p c.loop-planes-test.true c.planes-item.is on c.loop-planes.kept _ c.loop-planes.invariant c.in_ok-kept.ensures

pub kept_on_shape-requires : goal.kept_on_shape-requires
kept_on_shape-requires c = omega (arith, ap length c.deref.ensures.value, c.in_ok-corners.ensures.count, c.in_ok-corners.ensures.most)

pub returns : goal.returns
returns c =
    kept-in_block c.args.ready.now.query c.args.ready.now.shapes c.args.block.now c.in_ok-corners.corners.items c.in_ok-corners.ensures c.planes-planes-items.result.now c.loop-planes.planes-index c.loop-planes.kept
    (omega (arith, c.loop-planes-test.false)) c.planes-planes-items.ensures.value c.loop-planes.invariant c.loop-planes.auto.kept-fits.fits
