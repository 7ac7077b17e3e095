use Rattle.std.proofs.Common.{◌↔◌, List, subst}
use Rattle.std.specs.Prelude.{Contains}
use Rattle.corner_index.specs.CornerGames.{Entry, entry}
use Rattle.corner_index.proofs.corner_index.CornerIndex.games_with.Goals as goal

pub returns-clause-exact : goal.returns-clause-exact
returns-clause-exact c = λ g. subst (λ (es : List Entry). Contains c.games_with.result.now g ↔ Contains es (entry c.args.key g)) c.of_corner.ensures (c.games_with.ensures.exact g)
