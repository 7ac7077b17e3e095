use Rattle.std.proofs.Common.{refl}
use Rattle.query_script.proofs.SearchWords.{board-no_shape, board-only, board-present}
use Rattle.query_script.proofs.search_words.board_of.Goals as goal

pub returns-in_err-shape-clause-none : goal.returns-in_err-shape-clause-none
returns-in_err-shape-clause-none c = λ _. board-no_shape _ _ _ _ _ c.in-Some.ensures.some c.in_ok-cols.ensures.some (c.in_err-shape.ensures.none refl)

pub returns-clause-parted : goal.returns-clause-parted
returns-clause-parted c = board-present _ _ _ _ _ _ c.in-Some.ensures.some c.in_ok-cols.ensures.some c.in_ok-shape.ensures.some.0 c.in_ok-shape.ensures.some.1

pub returns-clause-only : goal.returns-clause-only
returns-clause-only c = board-only _ _ _ _ _ _ c.in-Some.ensures.some c.in_ok-cols.ensures.some c.in_ok-shape.ensures.some.0 c.in_ok-shape.ensures.some.1
