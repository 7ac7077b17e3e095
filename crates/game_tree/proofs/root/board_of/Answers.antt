use Rattle.game_tree.proofs.Roots.{board_without}
use Rattle.game_tree.proofs.root.board_of.Goals as goal

pub returns-in-None-clause-ok : goal.returns-in-None-clause-ok
returns-in-None-clause-ok c = board_without _ _ _ c.in-None.is c.standard.ensures.cols c.standard.ensures.rows
