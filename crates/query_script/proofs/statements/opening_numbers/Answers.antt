use Rattle.std.proofs.Common.{arith, refl}
use Rattle.query_script.proofs.statements.opening_numbers.Goals as goal

pub returns-in_err-shape-clause-none : goal.returns-in_err-shape-clause-none
returns-in_err-shape-clause-none c = λ nothing shape d m h. c.in_err-shape.ensures.none refl shape h.cols_are.0 h.rows_are.0

pub returns-in_err-depth-clause-none : goal.returns-in_err-depth-clause-none
returns-in_err-depth-clause-none c = λ nothing shape d m h. c.in_err-depth.ensures.none refl d (omega (arith, c.from.ensures, h.depth_bound)) h.depth_is
