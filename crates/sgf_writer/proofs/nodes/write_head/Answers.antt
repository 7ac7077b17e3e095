use Rattle.kb_geometry.proofs.Lists.{appended_thrice}
use Rattle.sgf_writer.proofs.nodes.write_head.Goals as goal

pub returns-clause-ok : goal.returns-clause-ok
returns-clause-ok c = appended_thrice _ _ _ _ c.in_ok-append.ensures.ok c.in_ok-write_size.ensures.ok c.in_ok-append-2.ensures.ok
