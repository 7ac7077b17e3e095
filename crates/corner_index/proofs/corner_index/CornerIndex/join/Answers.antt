use Rattle.std.proofs.Common.{◌-◌, List, [], ◌∷◌, sym, subst, arith}
use Rattle.corner_index.specs.CornerGames.{AreEntriesOfBoth, Entry, HaveGamesBelow, IsIndexOfBoth, entries_in}
use Rattle.corner_index.proofs.CornerLists.{IsIndexOf-joined, four}
use Rattle.corner_index.proofs.corner_index.CornerIndex.join.Goals as goal

pub join-requires-clause-before : goal.join-requires-clause-before
join-requires-clause-before c = subst (λ (index : List (List Entry)). HaveGamesBelow index c.args.first) (sym c.a.view_is) c.requires.before 0 (omega arith)

pub join-requires-clause-fits : goal.join-requires-clause-fits
join-requires-clause-fits c = subst (λ (index : List (List Entry)). HaveGamesBelow index (400000 - c.args.first)) (sym c.b.view_is) c.requires.fits 0 (omega arith)

pub join-requires-2-clause-before : goal.join-requires-2-clause-before
join-requires-2-clause-before c = subst (λ (index : List (List Entry)). HaveGamesBelow index c.args.first) (sym c.a.view_is) c.requires.before 1 (omega arith)

pub join-requires-2-clause-fits : goal.join-requires-2-clause-fits
join-requires-2-clause-fits c = subst (λ (index : List (List Entry)). HaveGamesBelow index (400000 - c.args.first)) (sym c.b.view_is) c.requires.fits 1 (omega arith)

pub join-requires-3-clause-before : goal.join-requires-3-clause-before
join-requires-3-clause-before c = subst (λ (index : List (List Entry)). HaveGamesBelow index c.args.first) (sym c.a.view_is) c.requires.before 2 (omega arith)

pub join-requires-3-clause-fits : goal.join-requires-3-clause-fits
join-requires-3-clause-fits c = subst (λ (index : List (List Entry)). HaveGamesBelow index (400000 - c.args.first)) (sym c.b.view_is) c.requires.fits 2 (omega arith)

pub join-requires-4-clause-before : goal.join-requires-4-clause-before
join-requires-4-clause-before c = subst (λ (index : List (List Entry)). HaveGamesBelow index c.args.first) (sym c.a.view_is) c.requires.before 3 (omega arith)

pub join-requires-4-clause-fits : goal.join-requires-4-clause-fits
join-requires-4-clause-fits c = subst (λ (index : List (List Entry)). HaveGamesBelow index (400000 - c.args.first)) (sym c.b.view_is) c.requires.fits 3 (omega arith)

abbrev lists : goal.In_ok-join-4 → List (List Entry)
lists c = c.in_ok-join.field-0 ∷ c.in_ok-join-2.field-0 ∷ c.in_ok-join-3.field-0 ∷ c.in_ok-join-4.field-0 ∷ []

all_joined : (c : goal.In_ok-join-4) → IsIndexOfBoth c.args.a.now c.args.b.now c.args.first (lists c)
all_joined c =
    let a : List (List Entry) = c.a.inside.upper_left ∷ c.a.inside.upper_right ∷ c.a.inside.lower_left ∷ c.a.inside.lower_right ∷ [] in
    let b : List (List Entry) = c.b.inside.upper_left ∷ c.b.inside.upper_right ∷ c.b.inside.lower_left ∷ c.b.inside.lower_right ∷ [] in
    let are : IsIndexOfBoth a b c.args.first (lists c) = four (λ corner es. AreEntriesOfBoth (entries_in a corner) (entries_in b corner) c.args.first es) _ _ _ _ c.in_ok-join.ensures c.in_ok-join-2.ensures c.in_ok-join-3.ensures c.in_ok-join-4.ensures in
    subst (λ (index : List (List Entry)). IsIndexOfBoth index c.args.b.now c.args.first (lists c)) c.a.view_is (subst (λ (index : List (List Entry)). IsIndexOfBoth a index c.args.first (lists c)) c.b.view_is are)

pub returns-clause-joined : goal.returns-clause-joined
returns-clause-joined c = all_joined c

pub returns-clause-index : goal.returns-clause-index
returns-clause-index c one other one_is long other_is = IsIndexOf-joined c.args.a.now c.args.b.now (lists c) c.args.first (all_joined c) one other one_is long other_is
