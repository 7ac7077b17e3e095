use Rattle.kb_geometry.proofs.Prefixes.{refused_further}
use Rattle.sgf_writer.proofs.nodes.write_setups.Goals as goal

pub returns-in_err-write_setup-clause-refused : goal.returns-in_err-write_setup-clause-refused
returns-in_err-write_setup-clause-refused c = refused_further c.from_residual.result c.args.out.now.items c.loop-s.out.items c.write_setup.new.out.items c.loop-s.invariant.1 c.in_err-write_setup.ensures.refused
