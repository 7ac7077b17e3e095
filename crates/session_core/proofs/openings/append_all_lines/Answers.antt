use Rattle.std.proofs.Common.{take}
use Rattle.std.specs.List.{flat_map}
use Rattle.kb_geometry.proofs.Prefixes.{refused_behind}
use Rattle.session_core.specs.OpeningLines.{opening_lines}
use Rattle.session_core.proofs.openings.append_all_lines.Goals as goal

pub returns-in_err-append_lines-clause-refused : goal.returns-in_err-append_lines-clause-refused
returns-in_err-append_lines-clause-refused c = refused_behind c.from_residual.result c.args.out.now.items (flat_map opening_lines (take c.loop-opening.opening-index c.args.openings.now)) c.loop-opening.invariant c.in_err-append_lines.ensures.refused
