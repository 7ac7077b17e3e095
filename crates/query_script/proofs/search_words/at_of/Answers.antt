use Rattle.std.proofs.Common.{refl, Some, sym, subst}
use Rattle.query_script.specs.Reading.{AreParted}
use Rattle.query_script.specs.Search.{IsAt}
use Rattle.query_script.proofs.SearchWords.{at-absent, at-no_last, at-no_point, at-one_point, at-rectangle}
use Rattle.query_script.proofs.search_words.at_of.Goals as goal

pub returns-in_default-clause-parted : goal.returns-in_default-clause-parted
returns-in_default-clause-parted c = at-absent _

pub returns-in_err-first-clause-none : goal.returns-in_err-first-clause-none
returns-in_err-first-clause-none c = λ _ at rest parted otherwise _. at-no_point _ _ c.in-Some.ensures.some (c.in_err-first.ensures.none refl) at rest parted otherwise

pub returns-in_default-behind_name-clause-parted :
    goal.returns-in_default-behind_name-clause-parted
returns-in_default-behind_name-clause-parted c =
    subst (λ r. AreParted IsAt c.args.words.now (Some r) c.in_ok-first.behind_first.now) (sym c.rect_of.ensures)
    (at-one_point _ _ _ _ _ c.in-Some.ensures.some c.in_ok-first.ensures.some)

pub returns-in_err-last-clause-none : goal.returns-in_err-last-clause-none
returns-in_err-last-clause-none c = λ _.
    at-no_last _ _ _ _ _ _ c.in-Some.ensures.some c.in_ok-first.ensures.some c.in-Some-behind_name.ensures.some (c.in_err-last.ensures.none refl)

pub returns-clause-parted : goal.returns-clause-parted
returns-clause-parted c =
    subst (λ r. AreParted IsAt c.args.words.now (Some r) c.in_ok-last.rest.now) (sym c.rect_of-2.ensures)
    (at-rectangle _ _ _ _ _ _ _ _ _ c.in-Some.ensures.some c.in_ok-first.ensures.some c.in-Some-behind_name.ensures.some c.in_ok-last.ensures.some c.if-first-last.false c.if-first-last-2.false)
