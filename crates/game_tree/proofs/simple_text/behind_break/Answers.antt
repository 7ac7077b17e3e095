use Rattle.game_tree.proofs.SimpleTexts.{begins_with, break_from_feed, break_from_return}
use Rattle.game_tree.proofs.simple_text.behind_break.Goals as goal

pub returns-in-13-clause-some : goal.returns-in-13-clause-some
returns-in-13-clause-some c = break_from_return _ _ _ (begins_with _ 13 c.in-len1-up.len_at_least c.in-13.is) c.behind_partner.ensures

pub returns-in-10-clause-some : goal.returns-in-10-clause-some
returns-in-10-clause-some c = break_from_feed _ _ _ (begins_with _ 10 c.in-len1-up.len_at_least c.in-10.is) c.behind_partner-in-10.ensures
