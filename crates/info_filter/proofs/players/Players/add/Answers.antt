use Rattle.std.proofs.Common.{◌≡◌, ◌∙◌, ◌≤◌, All, ap, arith, sym, subst}
use Rattle.kb_geometry.specs.Outcomes.{is_black_win, is_white_win}
use Rattle.info_filter.specs.Players.{Side, TableRow}
use Rattle.info_filter.specs.Seats.{IsSeat, table_rows_of}
use Rattle.info_filter.specs.SidesCounted.{AreRowsWithSide}
use Rattle.info_filter.proofs.Tables.{game_rows, same_side, small_added, table_more}
use Rattle.info_filter.proofs.players.Players.add.Goals as goal

pub add_side-requires-clause-seat : goal.add_side-requires-clause-seat
add_side-requires-clause-seat c =
    (c.black.result.now, subst (λ es. IsSeat es c.black.result.now c.in_ok-black.black) (sym c.in_ok-reserve.ensures.entries) c.in_ok-black.ensures)

pub add_side-requires-2-clause-seat : goal.add_side-requires-2-clause-seat
add_side-requires-2-clause-seat c = (
  c.white.result.now,
  c.add_side.ensures.kept c.white.result.now c.in_ok-white.white
      (subst (λ es. IsSeat es c.white.result.now c.in_ok-white.white) (sym c.in_ok-reserve.ensures.entries) c.in_ok-white.ensures),
)

pub add_side-requires-2-clause-small : goal.add_side-requires-2-clause-small
add_side-requires-2-clause-small c =
    let rows = table_rows_of c.reserve.new.self.entries in
    let old_is : c.args.self.now ≡ rows = sym c.self.view_is ∙ ap table_rows_of (sym c.in_ok-reserve.ensures.entries) in
    let seat = subst (λ es. IsSeat es c.black.result.now c.in_ok-black.black) (sym c.in_ok-reserve.ensures.entries) c.in_ok-black.ensures in
    small_added 4000000000 4294967294 rows (table_rows_of c.add_side.new.scores.entries) _ (omega arith) (c.add_side.ensures.added c.black.result.now seat)
    (subst (λ rs. All (λ (row : TableRow). row.games ≤ 4000000000) rs) old_is c.requires)

pub returns-clause-rows : goal.returns-clause-rows
returns-clause-rows c =
    let rows = table_rows_of c.reserve.new.self.entries in
    let between = table_rows_of c.add_side.new.scores.entries in
    let new = table_rows_of c.add_side-2.new.scores.entries in
    let old_is : c.args.self.now ≡ rows = sym c.self.view_is ∙ ap table_rows_of (sym c.in_ok-reserve.ensures.entries) in
    let seat = subst (λ es. IsSeat es c.black.result.now c.in_ok-black.black) (sym c.in_ok-reserve.ensures.entries) c.in_ok-black.ensures in
    let seat-2 = subst (λ es. IsSeat es c.white.result.now c.in_ok-white.white) (sym c.in_ok-reserve.ensures.entries) c.in_ok-white.ensures in
    let black_won = c.is_black_win-black_wins.ensures ∙ ap is_black_win c.outcome-outcome.ensures in
    let white_won = c.is_white_win-white_wins.ensures ∙ ap is_white_win c.outcome-outcome.ensures in
    let black = subst (λ (side : Side). AreRowsWithSide rows side between) (same_side _ _ _ _ _ _ c.black.ensures black_won white_won) (c.add_side.ensures.added c.black.result.now seat) in
    let white = subst (λ (side : Side). AreRowsWithSide between side new) (same_side _ _ _ _ _ _ c.white.ensures white_won black_won) (c.add_side-2.ensures.added c.white.result.now (c.add_side.ensures.kept c.white.result.now c.in_ok-white.white seat-2)) in
    game_rows c.args.info.now c.args.self.now rows between new old_is black white

pub returns-clause-ok : goal.returns-clause-ok
returns-clause-ok c games table = table_more games c.args.info.now c.args.self.now (table_rows_of c.add_side-2.new.scores.entries) (returns-clause-rows c) table
