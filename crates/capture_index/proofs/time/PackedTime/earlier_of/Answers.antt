use Rattle.capture_index.proofs.Times.{stone-earlier}
use Rattle.capture_index.proofs.time.PackedTime.earlier_of.Goals as goal

pub returns : goal.returns
returns c n = stone-earlier c.args.self c.args.other (record { word = c.min.result }) c.min.ensures n
