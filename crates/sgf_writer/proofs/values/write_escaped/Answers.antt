use Rattle.std.proofs.Common.{take}
use Rattle.kb_geometry.proofs.Prefixes.{refused_behind}
use Rattle.sgf_writer.specs.Written.{escaped}
use Rattle.sgf_writer.proofs.values.write_escaped.Goals as goal

pub returns-in_err-write_byte-clause-refused : goal.returns-in_err-write_byte-clause-refused
returns-in_err-write_byte-clause-refused c = refused_behind c.from_residual.result c.args.out.now.items (escaped (take c.loop-b.b-index c.args.text.now)) c.loop-b.invariant c.in_err-write_byte.ensures.refused
