use Rattle.std.proofs.Common.{refl}
use Rattle.query_script.proofs.SearchBodies.{from_at, from_board, from_fixed, from_main, from_moves, from_pattern, no_board, no_moves_there, no_place_there}
use Rattle.query_script.proofs.search_words.query_of.Goals as goal

pub returns-in_default-clause-none : goal.returns-in_default-clause-none
returns-in_default-clause-none c = λ query body.
    let fixed = from_fixed _ _ _ query c.flag-same.ensures.only body in
    let main = from_main _ _ _ query c.flag-fixed.ensures.only fixed in
    let board = from_board _ _ _ query c.flag-main.ensures.only main in
    no_board _ query (c.in_default.ensures.none refl) board

pub returns-in_default-moves_of-clause-none : goal.returns-in_default-moves_of-clause-none
returns-in_default-moves_of-clause-none c = λ query body.
    let fixed = from_fixed _ _ _ query c.flag-same.ensures.only body in
    let main = from_main _ _ _ query c.flag-fixed.ensures.only fixed in
    let board = from_board _ _ _ query c.flag-main.ensures.only main in
    let moves = from_moves _ _ _ query c.in-Some.ensures.only board in
    no_moves_there _ query (c.in_default-moves_of.ensures.none refl) moves

pub returns-in_default-at_of-clause-none : goal.returns-in_default-at_of-clause-none
returns-in_default-at_of-clause-none c = λ query body.
    let fixed = from_fixed _ _ _ query c.flag-same.ensures.only body in
    let main = from_main _ _ _ query c.flag-fixed.ensures.only fixed in
    let board = from_board _ _ _ query c.flag-main.ensures.only main in
    let moves = from_moves _ _ _ query c.in-Some.ensures.only board in
    let at = from_at _ _ _ query c.in-Some-moves_of.ensures.only moves in
    no_place_there _ query (c.in_default-at_of.ensures.none refl) at

pub returns-in_default-2-clause-none : goal.returns-in_default-2-clause-none
returns-in_default-2-clause-none c = λ query body.
    let fixed = from_fixed _ _ _ query c.flag-same.ensures.only body in
    let main = from_main _ _ _ query c.flag-fixed.ensures.only fixed in
    let board = from_board _ _ _ query c.flag-main.ensures.only main in
    let moves = from_moves _ _ _ query c.in-Some.ensures.only board in
    let at = from_at _ _ _ query c.in-Some-moves_of.ensures.only moves in
    let pattern = from_pattern _ _ _ query c.in-Some-at_of.ensures.only at in
    let none = rw c.in_default-2.is at c.in_ok-pattern.ensures.none in
    none query.pattern pattern
