use Rattle.std.proofs.Common.{refl}
use Rattle.query_script.proofs.KeptBodies.{kept_at, kept_board, kept_fixed, no_kept_board}
use Rattle.query_script.proofs.SearchBodies.{from_pattern, no_place_there}
use Rattle.query_script.proofs.kept_words.kept_query_of.Goals as goal

pub returns-in_default-clause-none : goal.returns-in_default-clause-none
returns-in_default-clause-none c = λ query body.
    let fixed = kept_fixed _ _ _ query c.flag-same.ensures.only body in
    let board = kept_board _ _ _ query c.flag-fixed.ensures.only fixed.1 in
    no_kept_board _ query (c.in_default.ensures.none refl) board.1

pub returns-in_default-at_of-clause-none : goal.returns-in_default-at_of-clause-none
returns-in_default-at_of-clause-none c = λ query body.
    let fixed = kept_fixed _ _ _ query c.flag-same.ensures.only body in
    let board = kept_board _ _ _ query c.flag-fixed.ensures.only fixed.1 in
    let at = kept_at _ _ _ query c.in-Some.ensures.only board.1 in
    no_place_there _ query (c.in_default-at_of.ensures.none refl) at.1

pub returns-in_default-2-clause-none : goal.returns-in_default-2-clause-none
returns-in_default-2-clause-none c = λ query body.
    let fixed = kept_fixed _ _ _ query c.flag-same.ensures.only body in
    let board = kept_board _ _ _ query c.flag-fixed.ensures.only fixed.1 in
    let at = kept_at _ _ _ query c.in-Some.ensures.only board.1 in
    let pattern = from_pattern _ _ _ query c.in-Some-at_of.ensures.only at.1 in
    let none = rw c.in_default-2.is at c.in_ok-pattern.ensures.none in
    none query.pattern pattern
