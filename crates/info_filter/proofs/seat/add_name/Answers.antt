use Rattle.std.proofs.Common.{◌≡◌, ◌∙◌, ap, arith, unwrap_or}
use Rattle.std.proofs.lemmas.Result.{IfOk-at_ok}
use Rattle.indexmap.specs.Entry.{map_with_value}
use Rattle.indexmap.specs.IndexMap.{insert_entry}
use Rattle.info_filter.specs.Seats.{is_same_name}
use Rattle.info_filter.proofs.Entries.{next_there, small_found, small_or_none}
use Rattle.info_filter.proofs.seat.add_name.Goals as goal

pub with-requires : goal.with-requires
with-requires c =
    let value = IfOk-at_ok _ c.unwrap.ensures c.entry.ensures.value in
    small_or_none 4294967294 _ c.none.result c.or_insert-score.result.now c.none.ensures.games (c.or_insert-score.ensures.value ∙ ap (λ o. unwrap_or o c.none.result) value)
    (small_found 4294967294 (is_same_name c.args.name) c.args.scores.now.entries c.requires.small)

pub returns-clause-counted : goal.returns-clause-counted
returns-clause-counted c =
    let update = IfOk-at_ok _ c.unwrap.ensures c.entry.ensures.update in
    let value = IfOk-at_ok _ c.unwrap.ensures c.entry.ensures.value in
    let p : (map_with_value c.unwrap.result c.with.result).entries ≡ insert_entry is_same_name c.args.scores.now.entries c.args.name c.with.result = update.1 c.with.result in
    let is = c.or_insert-score.ensures.value ∙ ap (λ o. unwrap_or o c.none.result) value in
    (c.with.result, next_there c.args.won c.args.lost _ c.none.result c.or_insert-score.result.now c.with.result c.none.ensures.games c.none.ensures.wins c.none.ensures.losses is c.with.ensures, grind (arith, p))
