-- Each way of the function is one of the ways in which the next label is listed.
use Rattle.std.proofs.Common.{◌≡◌, ◌+◌, ◌∙◌, true, false, None, List, refl, sym, subst}
use Rattle.std.proofs.lemmas.List.{get_or_default}
use Rattle.pattern_images.specs.declared.listing.StoredPlace.{StoredPlace}
use Rattle.pattern_images.specs.Listing.{IsListedTo}
use Rattle.pattern_images.proofs.ListSteps.{no_turn-listed, outside-listed, given-listed, new-listed}
use Rattle.pattern_images.proofs.listing.list_label.Goals as goal

pub returns-then-not-contains : goal.returns-then-not-contains
returns-then-not-contains c = λ shape query grids are listed.
    outside-listed query shape grids c.args.turns.now are c.args.p c.args.number c.requires.number c.args.places.now.items listed c.in-Some.turn
    (get_or_default c.args.turns.now c.args.number None _ c.requires.number ∙ c.in-Some.is) (λ inside. let no : false ≡ true = c.if-not-contains.ensures.1 inside in cc)

pub returns-then-is_given_before : goal.returns-then-is_given_before
returns-then-is_given_before c = λ shape query grids are listed.
    given-listed query shape grids c.args.turns.now are c.args.p c.args.number c.requires.number c.args.places.now.items listed c.in-Some.turn
    (get_or_default c.args.turns.now c.args.number None _ c.requires.number ∙ c.in-Some.is) (c.if-is_given_before.ensures.0 refl)

pub returns : goal.returns
returns c = λ shape query grids are listed.
    subst (λ (stored : List StoredPlace). IsListedTo query shape grids c.args.p.y c.args.p.x (c.args.number + 1) stored) (sym c.in_ok-push.ensures.items)
    (new-listed query shape grids c.args.turns.now are c.args.p c.args.number c.requires.number c.args.places.now.items listed c.in-Some.turn
    (get_or_default c.args.turns.now c.args.number None _ c.requires.number ∙ c.in-Some.is) (c.if-not-contains.ensures.0 refl) (λ given. let no : false ≡ true = c.if-is_given_before.ensures.1 given in cc))

pub returns-in_default : goal.returns-in_default
returns-in_default c = λ shape query grids are listed.
    no_turn-listed query shape grids c.args.turns.now are c.args.p c.args.number c.requires.number c.args.places.now.items listed
    (get_or_default c.args.turns.now c.args.number None _ c.requires.number ∙ c.in_default.is)
