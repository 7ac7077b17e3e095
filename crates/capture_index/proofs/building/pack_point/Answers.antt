use Rattle.capture_index.specs.Runs.{runs_at}
use Rattle.capture_index.proofs.Packed.{IsPacked-one}
use Rattle.capture_index.proofs.building.pack_point.Goals as goal

pub packed-requires : goal.packed-requires
packed-requires c = c.in-Some.ensures.fits

pub returns-in-Some : goal.returns-in-Some
returns-in-Some c =
    IsPacked-one (runs_at c.args.growing.now c.args.point) c.args.runs.now.items c.args.ends.now.items c.in-Some.time c.packed.result c.requires.lists c.packed.ensures c.in-Some.ensures.one
    (c.in-Some.ensures.tells (runs_at c.args.growing.now c.args.point) c.few.ensures)
