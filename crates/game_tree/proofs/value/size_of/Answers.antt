use Rattle.std.proofs.Common.{refl}
use Rattle.game_tree.proofs.Colons.{size-sides, size-square, size_at, square_at}
use Rattle.game_tree.proofs.value.size_of.Goals as goal

pub returns-in_err-side_of-in-Some-clause-none : goal.returns-in_err-side_of-in-Some-clause-none
returns-in_err-side_of-in-Some-clause-none c = λ _ shape size.
    c.in_err-side_of-in-Some.ensures.none refl _ ((size-sides _ _ shape _ c.in-Some.ensures.some.0 c.in-Some.ensures.some.1 size).0)

pub returns-in_err-side_of-in-Some-2-clause-none :
    goal.returns-in_err-side_of-in-Some-2-clause-none
returns-in_err-side_of-in-Some-2-clause-none c = λ _ shape size.
    c.in_err-side_of-in-Some-2.ensures.none refl _ ((size-sides _ _ shape _ c.in-Some.ensures.some.0 c.in-Some.ensures.some.1 size).1)

pub returns-in_err-side-in-None-clause-none : goal.returns-in_err-side-in-None-clause-none
returns-in_err-side-in-None-clause-none c = λ _ shape size.
    c.in_err-side-in-None.ensures.none refl _ ((size-square _ shape (c.in-None.ensures.none refl) size).0)

pub returns-in_ok-side_of-in-Some-2-clause-some : goal.returns-in_ok-side_of-in-Some-2-clause-some
returns-in_ok-side_of-in-Some-2-clause-some c =
    size_at _ _ _ _ _ _ c.in-Some.ensures.some.0 c.in_ok-side_of-in-Some.ensures.some c.in_ok-side_of-in-Some-2.ensures.some c.shape_of.ensures

pub returns-in_ok-side-in-None-clause-some : goal.returns-in_ok-side-in-None-clause-some
returns-in_ok-side-in-None-clause-some c = square_at _ _ _ c.in_ok-side-in-None.ensures.some c.shape_of-in-None.ensures
