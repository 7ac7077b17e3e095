use Rattle.std.proofs.Common.{refl}
use Rattle.game_tree.proofs.Colons.{corners_at, one_point_at, setup-corners, setup-point}
use Rattle.game_tree.proofs.value.rect_at.Goals as goal

pub returns-in_err-p-in-Some-clause-none : goal.returns-in_err-p-in-Some-clause-none
returns-in_err-p-in-Some-clause-none c = λ _ r setup.
    let (p, q, one, other, is) = setup-corners _ _ _ _ r c.in-Some.ensures.some.0 c.in-Some.ensures.some.1 setup in
    c.in_err-p-in-Some.ensures.none refl p one

pub returns-in_err-q-in-Some-clause-none : goal.returns-in_err-q-in-Some-clause-none
returns-in_err-q-in-Some-clause-none c = λ _ r setup.
    let (p, q, one, other, is) = setup-corners _ _ _ _ r c.in-Some.ensures.some.0 c.in-Some.ensures.some.1 setup in
    c.in_err-q-in-Some.ensures.none refl q other

pub returns-in_err-p-in-None-clause-none : goal.returns-in_err-p-in-None-clause-none
returns-in_err-p-in-None-clause-none c = λ _ r setup.
    let (p, at, is) = setup-point _ _ r (c.in-None.ensures.none refl) setup in
    c.in_err-p-in-None.ensures.none refl p at

pub returns-in_ok-q-in-Some-clause-some : goal.returns-in_ok-q-in-Some-clause-some
returns-in_ok-q-in-Some-clause-some c =
    corners_at _ _ _ _ _ _ _ c.in-Some.ensures.some.0 c.in_ok-p-in-Some.ensures.some c.in_ok-q-in-Some.ensures.some c.rect_of.ensures

pub returns-in_ok-p-in-None-clause-some : goal.returns-in_ok-p-in-None-clause-some
returns-in_ok-p-in-None-clause-some c = one_point_at _ _ _ _ c.in_ok-p-in-None.ensures.some c.rect_of-in-None.ensures
