use Rattle.standing_query.proofs.NewHitsFound.{found-nothing}
use Rattle.standing_query.proofs.laws.nothing_is_found_in_no_games.Goals as goal

pub returns : goal.returns
returns g c = λ finder first. found-nothing (g.N.Finder.finds finder) (g.met.N.Finder.some_list finder) (g.met.N.Finder.one_list finder) (g.met.N.Finder.by_parts finder) first
