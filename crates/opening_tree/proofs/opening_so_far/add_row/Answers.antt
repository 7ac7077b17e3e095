use Rattle.std.proofs.Common.{◌≡◌, ◌≢◌, ◌∙◌, ◌<◌, ◌≤◌, ℕ, List, ap, arith, get_or, length, set, subst, sym}
use Rattle.std.specs.Prelude.{All}
use Rattle.opening_tree.specs.declared.answer.NextMove.{NextMove}
use Rattle.opening_tree.specs.Groups.{IsRowWithin, row_order, row_with}
use Rattle.opening_tree.proofs.RowsGrow.{any_default}
use Rattle.opening_tree.proofs.RowsJoin.{more_begun, more_counted, row-here}
use Rattle.opening_tree.proofs.opening_so_far.add_row.Goals.{then-at-len+else-play_order-order, else-at-len}
use Rattle.opening_tree.proofs.opening_so_far.add_row.Goals as goal

pub row_with-requires : goal.row_with-requires
row_with-requires c =
    let rows = c.args.rows.now.items in
    let at = c.rows_before-at.result in
    let order = row_order c.args.more.now in
    let row = c.index-row.result.now in
    let first : (k : ℕ) (d : NextMove) → k < at → row_order (get_or rows k d) < c.play_order-order.result =
    subst (λ (xs : List NextMove). (k : ℕ) (d : NextMove) → k < at → row_order (get_or xs k d) < c.play_order-order.result) c.as_slice.ensures.value c.rows_before-at.ensures.before in
    let before : (k : ℕ) (d : NextMove) → k < at → row_order (get_or rows k d) < order = subst (λ o. (k : ℕ) (d : NextMove) → k < at → row_order (get_or rows k d) < o) c.play_order-order.ensures first in
    let lt : at < length rows = omega (arith, c.if-at-len.true, c.len.ensures) in
    let same : row_order row ≡ order = sym c.play_order.ensures ∙ c.if-play_order-order.true ∙ c.play_order-order.ensures in
    row-here 18446744073709551615 rows at (row_with row c.args.more.now) lt
    (subst (λ (xs : List NextMove). All (IsRowWithin 18446744073709551615) xs) (sym (more_counted rows at c.args.more.now row lt before c.index-row.ensures same)) c.requires)

pub returns-then-play_order-order : goal.returns-then-play_order-order
returns-then-play_order-order c =
    let rows = c.args.rows.now.items in
    let at = c.rows_before-at.result in
    let order = row_order c.args.more.now in
    let row = c.index-row.result.now in
    let first : (k : ℕ) (d : NextMove) → k < at → row_order (get_or rows k d) < c.play_order-order.result =
    subst (λ (xs : List NextMove). (k : ℕ) (d : NextMove) → k < at → row_order (get_or xs k d) < c.play_order-order.result) c.as_slice.ensures.value c.rows_before-at.ensures.before in
    let before : (k : ℕ) (d : NextMove) → k < at → row_order (get_or rows k d) < order = subst (λ o. (k : ℕ) (d : NextMove) → k < at → row_order (get_or rows k d) < o) c.play_order-order.ensures first in
    let lt : at < length rows = omega (arith, c.if-at-len.true, c.len.ensures) in
    let same : row_order row ≡ order = sym c.play_order.ensures ∙ c.if-play_order-order.true ∙ c.play_order-order.ensures in
    ap (set rows at) c.row_with.ensures ∙ more_counted rows at c.args.more.now row lt before c.index-row.ensures same

pub returns : goal.returns
returns c =
    let rows = c.args.rows.now.items in
    let at = c.rows_before-at.result in
    let order = row_order c.args.more.now in
    let first : (k : ℕ) (d : NextMove) → k < at → row_order (get_or rows k d) < c.play_order-order.result =
    subst (λ (xs : List NextMove). (k : ℕ) (d : NextMove) → k < at → row_order (get_or xs k d) < c.play_order-order.result) c.as_slice.ensures.value c.rows_before-at.ensures.before in
    let before : (k : ℕ) (d : NextMove) → k < at → row_order (get_or rows k d) < order = subst (λ o. (k : ℕ) (d : NextMove) → k < at → row_order (get_or rows k d) < o) c.play_order-order.ensures first in
    let there : (d : NextMove) → at < length rows → c.play_order-order.result ≤ row_order (get_or rows at d) =
    subst (λ (xs : List NextMove). (d : NextMove) → at < length xs → c.play_order-order.result ≤ row_order (get_or xs at d)) c.as_slice.ensures.value c.rows_before-at.ensures.there in
    let within : at ≤ length rows = subst (λ (xs : List NextMove). at ≤ length xs) c.as_slice.ensures.value c.rows_before-at.ensures.within in
    let behind : (d : NextMove) → at < length rows → order < row_order (get_or rows at d) = λ d lt. elim c.if-at-len.branch [
      | then-at-len+else-play_order-order w ↦
          let row = w.index-row.result.now in
          let own : row_order (get_or rows at d) ≡ row_order row = ap row_order (any_default rows at d row lt ∙ sym w.index-row.ensures) in
          let other : c.play_order-order.result ≢ row_order row = λ e. w.if-play_order-order.false (w.play_order.ensures ∙ sym e) in
          omega (arith, there d lt, own, other, c.play_order-order.ensures)
      | else-at-len w ↦ absurd (omega (arith, lt, w.if-at-len.false, c.len.ensures))
    ] in
    c.in_ok-insert.ensures.items ∙ more_begun rows at c.args.more.now within before behind
