use Rattle.search_engine.proofs.HitsKept.{hit-kept}
use Rattle.search_engine.proofs.laws.a_game_with_a_hit_is_kept.Goals as goal

pub returns : goal.returns
returns c = λ query filter number tree hits hit are there. hit-kept query number tree filter hits are hit there
