use Rattle.std.proofs.Common.{◌∙◌, ap}
use Rattle.opening_tree.specs.Packing.{words_for}
use Rattle.opening_tree.proofs.openings_of_games.OpeningsOfGames.new.Goals as goal

pub returns-clause-width : goal.returns-clause-width
returns-clause-width c = c.in_ok-openings.ensures.width ∙ c.words_for.ensures ∙ ap words_for c.count.ensures.value
