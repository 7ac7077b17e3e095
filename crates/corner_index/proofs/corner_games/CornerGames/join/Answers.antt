use Rattle.std.proofs.Common.{◌-◌, List, sym, subst}
use Rattle.corner_index.specs.CornerGames.{AreBelow, AreEntriesOfBoth, Entry}
use Rattle.corner_index.specs.Entries.{entries_of}
use Rattle.corner_index.proofs.JoinedEntries.{all_below, entries-joined}
use Rattle.corner_index.proofs.corner_games.CornerGames.join.Goals as goal

pub joined-requires-clause-before : goal.joined-requires-clause-before
joined-requires-clause-before c =
    all_below c.a.inside.lists.keys.items c.a.inside.lists.games.items c.args.first c.a.invariant (subst (λ (es : List Entry). AreBelow es c.args.first) (sym c.a.view_is) c.requires.before)

pub joined-requires-clause-fits : goal.joined-requires-clause-fits
joined-requires-clause-fits c =
    all_below c.b.inside.lists.keys.items c.b.inside.lists.games.items (400000 - c.args.first) c.b.invariant (subst (λ (es : List Entry). AreBelow es (400000 - c.args.first)) (sym c.b.view_is) c.requires.fits)

pub returns : goal.returns
returns c =
    let all = c.in_ok-joined.field-0 in
    let of_b = entries_of c.b.inside.lists.keys.items c.b.inside.lists.games.items in
    let entries = entries_of all.keys.items all.games.items in
    subst (λ (es : List Entry). AreEntriesOfBoth es c.args.b.now c.args.first entries) c.a.view_is
    (subst (λ (es : List Entry). AreEntriesOfBoth (entries_of c.a.inside.lists.keys.items c.a.inside.lists.games.items) es c.args.first entries) c.b.view_is
    (entries-joined c.a.inside.lists.keys.items c.a.inside.lists.games.items c.b.inside.lists.keys.items c.b.inside.lists.games.items c.args.first all.keys.items all.games.items c.in_ok-joined.ensures.exact))
