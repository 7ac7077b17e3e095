use Rattle.std.proofs.Common.{take}
use Rattle.std.specs.List.{flat_map}
use Rattle.kb_geometry.proofs.Prefixes.{refused_behind}
use Rattle.session_core.specs.OpeningLines.{next_line}
use Rattle.session_core.proofs.openings.append_nexts.Goals as goal

pub returns-in_err-append_next-clause-refused : goal.returns-in_err-append_next-clause-refused
returns-in_err-append_next-clause-refused c = refused_behind c.from_residual.result c.args.out.now.items (flat_map next_line (take c.loop-next.next-index c.args.nexts.now)) c.loop-next.invariant c.in_err-append_next.ensures.refused
