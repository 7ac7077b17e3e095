use Rattle.sgf_writer.proofs.ReadsBack.{written-read_back}
use Rattle.sgf_writer.proofs.writer.write.Goals as goal

pub returns-in_err-reserve-clause-read_back : goal.returns-in_err-reserve-clause-read_back
returns-in_err-reserve-clause-read_back c = written-read_back c.args.tree.now c.node_count.ensures.tree

pub returns-clause-read_back : goal.returns-clause-read_back
returns-clause-read_back c = written-read_back c.args.tree.now c.node_count.ensures.tree
