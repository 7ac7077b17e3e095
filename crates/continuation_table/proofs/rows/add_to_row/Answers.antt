use Rattle.std.proofs.Common.{◌≡◌, ◌<◌, true, false, length, List, get_or, sym, subst, ◌∙◌, arith}
use Rattle.std.proofs.lemmas.List.{get_or_default}
use Rattle.continuation_table.specs.declared.table.Row.{Row}
use Rattle.continuation_table.specs.Counting.{HaveSameNext, IsPlaceIn, IsRowAdded, absent}
use Rattle.continuation_table.proofs.KeptRows.{row_there}
use Rattle.continuation_table.proofs.rows.add_to_row.Goals.{then-i-len+else-have_same_next, else-i-len}
use Rattle.continuation_table.proofs.rows.add_to_row.Goals as goal

pub returns-then-have_same_next : goal.returns-then-have_same_next
returns-then-have_same_next c =
    let place = subst (λ (rows : List Row). IsPlaceIn rows c.args.new c.place_in-i.result) c.as_slice.ensures.value c.place_in-i.ensures in
    row_there c.args.hit.now c.args.rows.now.items c.args.new c.place_in-i.result c.index-row.result.now c.with.result place (omega (arith, c.if-i-len.true)) c.index-row.ensures (c.have_same_next.ensures.0 c.if-have_same_next.true) c.with.ensures

pub returns : goal.returns
returns c =
    let place = subst (λ (rows : List Row). IsPlaceIn rows c.args.new c.place_in-i.result) c.as_slice.ensures.value c.place_in-i.ensures in
    let missing : (d : Row) → c.place_in-i.result < length c.args.rows.now.items → ¬ HaveSameNext (get_or c.args.rows.now.items c.place_in-i.result d) c.args.new = λ d lt same.
    elim c.if-i-len.branch [
      | then-i-len+else-have_same_next w ↦
          let here = w.index-row.ensures ∙ get_or_default c.args.rows.now.items c.place_in-i.result _ d lt in
          let no : false ≡ true = sym w.if-have_same_next.false ∙ w.have_same_next.ensures.1 (subst (λ (row : Row). HaveSameNext row c.args.new) (sym here) same) in
          absurd cc
      | else-i-len w ↦ absurd (omega (arith, lt, w.if-i-len.false))
    ] in
    subst (IsRowAdded c.args.hit.now c.args.rows.now.items c.args.new) (sym c.in_ok-insert.ensures.items) (absent c.place_in-i.result place missing)
