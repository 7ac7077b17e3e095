use Rattle.std.proofs.Common.{◌≡◌, ◌-◌, ◌+◌, ◌++◌, ap, arith, drop, length, rules, subst}
use Rattle.standing_query.proofs.NewHitsFound.{to-more}
use Rattle.standing_query.proofs.new_hits.NewHits.add_part.Goals as goal

pub returns-clause-found : goal.returns-clause-found
returns-clause-found g c = λ games so_far.
    let finds = g.N.Finder.finds c.args.finder.now in
    let self = c.args.self.now in
    let more = c.args.part.now in
    let passed : c.saturating_sub-passed.result ≡ self.covered - self.games = search rules in
    let count : self.games + c.game_count-count.result ≡ self.games + length more = omega (arith, c.game_count-count.ensures.value) in
    let number : self.games + c.saturating_sub-passed.result ≡ self.games + (self.covered - self.games) = ap (λ n. self.games + n) passed in
    let found = subst (λ n. finds (self.games + c.saturating_sub-passed.result) (drop n more) c.in_ok-more.more.items) passed c.in_ok-more.ensures.hits in
    let pushed : c.append.new.self.items ≡ self.hits.items ++ c.in_ok-more.more.items = search rules in
    to-more finds self.covered games more self.games self.hits.items so_far (g.met.N.Finder.by_parts c.args.finder.now) (self.games + c.game_count-count.result) (self.games + c.saturating_sub-passed.result) c.in_ok-more.more.items c.append.new.self.items count number found pushed
