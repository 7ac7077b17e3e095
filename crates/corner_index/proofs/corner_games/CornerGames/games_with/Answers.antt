use Rattle.std.proofs.Common.{sym, subst}
use Rattle.corner_index.specs.Entries.{AreRising, IsFirstBehind, IsFirstFrom}
use Rattle.corner_index.proofs.GamesWith.{found-ascending, found-exact, rising}
use Rattle.corner_index.proofs.corner_games.CornerGames.games_with.Goals as goal

pub first_from-first-requires : goal.first_from-first-requires
first_from-first-requires c = subst AreRising (sym c.deref.ensures.value) (rising c.self.inside.lists.keys.items c.self.inside.lists.games.items c.self.invariant)

pub first_behind-end-requires : goal.first_behind-end-requires
first_behind-end-requires c = subst AreRising (sym c.deref-2.ensures.value) (rising c.self.inside.lists.keys.items c.self.inside.lists.games.items c.self.invariant)

pub returns-clause-exact : goal.returns-clause-exact
returns-clause-exact c = λ g.
    let first = subst (λ l. IsFirstFrom l c.args.key c.first_from-first.result) c.deref.ensures.value c.first_from-first.ensures in
    let behind = subst (λ l. IsFirstBehind l c.args.key c.first_behind-end.result) c.deref-2.ensures.value c.first_behind-end.ensures in
    rw (c.deref-3.ensures.value, sym c.self.view_is)
    (found-exact c.self.inside.lists.keys.items c.self.inside.lists.games.items c.self.invariant c.args.key c.first_from-first.result c.first_behind-end.result first behind g)

pub returns-clause-ascending : goal.returns-clause-ascending
returns-clause-ascending c =
    let first = subst (λ l. IsFirstFrom l c.args.key c.first_from-first.result) c.deref.ensures.value c.first_from-first.ensures in
    let behind = subst (λ l. IsFirstBehind l c.args.key c.first_behind-end.result) c.deref-2.ensures.value c.first_behind-end.ensures in
    rw c.deref-3.ensures.value
    (found-ascending c.self.inside.lists.keys.items c.self.inside.lists.games.items c.self.invariant c.args.key c.first_from-first.result c.first_behind-end.result first behind)
