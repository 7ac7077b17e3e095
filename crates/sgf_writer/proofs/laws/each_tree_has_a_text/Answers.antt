use Rattle.sgf_writer.proofs.EachWritten.{each-written}
use Rattle.sgf_writer.proofs.laws.each_tree_has_a_text.Goals as goal

pub returns : goal.returns
returns c = each-written
