-- One want more.
use Rattle.std.proofs.Common.{◌+◌, ◌≡◌, ◌∙◌, false, ap, arith, sym}
use Rattle.std.specs.Prelude.{slice_index_or}
use Rattle.capture_index.specs.Lists.{one_run}
use Rattle.ready_images.specs.Wants.{no_want}
use Rattle.capture_index.specs.Times.{is_many, told_by}
use Rattle.capture_index.proofs.Narrowing.{cells-few, left-narrowed, listed-told}
use Rattle.capture_index.proofs.packed_runs.PackedRuns.with_mixed.Goals as goal

pub loop-k-preserved : goal.loop-k-preserved
loop-k-preserved c =
    let index = c.args.self.now in
    let wants = c.args.class.wants.now in
    let k = c.loop-k.k in
    let p = c.args.base + (slice_index_or wants k no_want).offset in
    let t = c.unpack-time.result in
    let is = c.unpack-time.ensures ∙ ap told_by c.time_behind.ensures in
    let few : is_many t ≡ false = sym c.is_many.ensures ∙ c.if-is_many.false in
    left-narrowed index c.args.base wants k (omega (arith, c.loop-k-test.true, c.args.class.parted.within)) (record { nodes = c.loop-k.nodes; listed = c.loop-k.listed }) c.loop-k.invariant
    (listed-told index p t is ∙ few) (one_run t) (cells-few index p t is few) c.in-Some.next c.in-Some.ensures.some
