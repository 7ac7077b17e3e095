use Rattle.std.proofs.Common.{◌∙◌, ap, arith}
use Rattle.std.proofs.lemmas.Result.{IfOk-weaker}
use Rattle.import_work.specs.Log.{games_of_segments}
use Rattle.import_work.proofs.OneSegment.{only_one}
use Rattle.import_work.proofs.merging.in_one.Goals as goal

pub returns-in-Some : goal.returns-in-Some
returns-in-Some c = only_one c.args.segments.items _ c.in-Some.one (omega arith) c.in-Some.ensures.items
