use Rattle.capture_index.proofs.Told.{seen-told}
use Rattle.capture_index.proofs.run_index.RunIndex.of.Goals as goal

pub returns : goal.returns
returns c = seen-told c.args.deltas.now c.in_ok-packed.packed c.in_ok-packed.ensures
