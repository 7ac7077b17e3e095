use Rattle.std.proofs.Common.{take}
use Rattle.std.specs.List.{flat_map}
use Rattle.kb_geometry.proofs.Prefixes.{refused_behind}
use Rattle.query_script.specs.Texts.{row_text}
use Rattle.query_script.proofs.search_text.append_rows.Goals as goal

pub returns-in_err-append_row-clause-refused : goal.returns-in_err-append_row-clause-refused
returns-in_err-append_row-clause-refused c = refused_behind c.from_residual.result c.args.out.now.items (flat_map row_text (take c.loop-row.row-index c.args.rows.now)) c.loop-row.invariant c.in_err-append_row.ensures.refused
