use Rattle.std.proofs.Common.{take}
use Rattle.std.specs.List.{flat_map}
use Rattle.kb_geometry.proofs.Prefixes.{refused_behind}
use Rattle.hit_collectors.specs.Reports.{behind_space}
use Rattle.hit_collectors.proofs.report.append_numbers.Goals as goal

pub returns-in_err-append_number-clause-refused : goal.returns-in_err-append_number-clause-refused
returns-in_err-append_number-clause-refused c = refused_behind c.from_residual.result c.args.out.now.items (flat_map behind_space (take c.loop-number.number-index c.args.numbers.now)) c.loop-number.invariant c.in_err-append_number.ensures.refused
