use Rattle.std.proofs.Common.{refl, arith}
use Rattle.game_tree.proofs.Values.{no_column, no_row, point_at}
use Rattle.game_tree.proofs.value.point_of.Goals as goal

pub returns-in_err-x-clause-none : goal.returns-in_err-x-clause-none
returns-in_err-x-clause-none c = λ _. no_column _ _ _ _ c.in_ok-column.ensures.some (c.in_err-x.ensures.none refl)

pub returns-in_err-y-clause-none : goal.returns-in_err-y-clause-none
returns-in_err-y-clause-none c = λ _. no_row _ _ _ _ c.in_ok-column.ensures.some (c.in_err-y.ensures.none refl)

pub returns-then-y-rows-clause-some : goal.returns-then-y-rows-clause-some
returns-then-y-rows-clause-some c =
    let cols = c.cols.ensures.value in
    let rows = c.rows.ensures.value in
    point_at _ _ _ _ _ _ c.in_ok-column.ensures.some c.in_ok-x.ensures.some c.in_ok-y.ensures.some (omega (arith, cols)) (omega (arith, rows))
