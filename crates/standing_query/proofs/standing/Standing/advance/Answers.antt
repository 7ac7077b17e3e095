use Rattle.std.proofs.Common.{◌≡◌, ◌≤◌, ◌++◌, ap, arith, length, rules, subst, sym, take}
use Rattle.version_publisher.specs.Contents.{items_in}
use Rattle.standing_query.specs.StandingState.{StandingState}
use Rattle.standing_query.proofs.NewHitsFound.{found-all}
use Rattle.standing_query.proofs.standing.Standing.advance.Goals as goal

pub returns-clause-hits : goal.returns-clause-hits
returns-clause-hits g c =
    let finds = g.N.Finder.finds c.args.finder.now in
    let games = items_in c.args.version.now.parts in
    let inside = c.self.inside in
    let le : inside.games ≤ length games = omega (arith, ap (λ (s : StandingState). s.games) c.self.view_is, c.requires.games) in
    let earlier = subst (λ (s : StandingState). finds 0 (take s.games games) s.hits) (sym c.self.view_is) c.requires.hits in
    let pushed : c.append.new.self.items ≡ inside.hits.items ++ c.in_ok-found.found.hits.items = search rules in
    found-all finds (g.met.N.Finder.by_parts c.args.finder.now) inside.games games inside.hits.items c.in_ok-found.found.hits.items c.append.new.self.items le earlier c.in_ok-found.ensures.found.found pushed
