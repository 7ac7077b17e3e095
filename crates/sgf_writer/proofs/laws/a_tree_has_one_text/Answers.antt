use Rattle.sgf_writer.proofs.OneText.{one_text}
use Rattle.sgf_writer.proofs.laws.a_tree_has_one_text.Goals as goal

pub returns : goal.returns
returns c = one_text
