-- A walk along the rows of a list, by their links.
use Rattle.std.proofs.Common.{◌≡◌, ◌≢◌, ℕ, ◌+◌, ◌-◌, ◌<◌, ◌≤◌, cond, inl, inr, List, [], ◌∷◌, length, length-drop, get_or, drop, refl, sym, ap, ◌∙◌, subst, arith}
use Rattle.std.specs.Prelude.{All, slice_index}
use Rattle.std.proofs.lemmas.Bool.{cases_eq, cases_lt, eq-eqb}
use Rattle.std.proofs.lemmas.List.{drop-drop, drop_all, drop_more, get_or-drop, get_or_read}
use Rattle.opening_tree.specs.declared.answer.NextMove.{NextMove}
use Rattle.opening_tree.specs.Groups.{IsRowWithin, row_order, with_more_row}
use Rattle.opening_tree.specs.RowLists.{AreRowLists, IsFirstFrom, IsNoRow, rows_from}
use Rattle.opening_tree.proofs.RowListRows.{rows-skipped, sofar-within}

pub link-read : (xs : List ℕ) (k x : ℕ) → k < length xs → x ≡ get_or xs k x → x ≡ slice_index xs k
link-read xs k x lt is = get_or_read xs k x lt is 0

-- A link stands at a row of a list, or at none.
pub record IsAtRow (list : ℕ) (lists : List ℕ) (link : ℕ) : Type 0 where
  pub there : link < length lists → slice_index lists link ≡ list
  pub past : length lists ≤ link → link ≡ 4294967295

pub row-there : (list : ℕ) (lists : List ℕ) (link : ℕ) → IsAtRow list lists link → link ≢ 4294967295 → link < length lists
row-there list lists link at ne = elim (cases_lt link (length lists)) [
  | inl lt ↦ lt
  | inr ge ↦ absurd (ne (at.past ge))
]

first-row : (list from link : ℕ) (lists : List ℕ) → IsFirstFrom lists list from link → IsAtRow list lists link
first-row list from link lists first = record { there = first.there; past = first.past }

next-first : (list at after : ℕ) (rows : List NextMove) (lists nexts firsts lasts : List ℕ) → AreRowLists rows lists nexts firsts lasts → at < length lists → slice_index lists at ≡ list → after ≡ slice_index nexts at → IsFirstFrom lists list (at + 1) after
next-first list at after rows lists nexts firsts lasts are lt own is =
    subst (λ l. IsFirstFrom lists l (at + 1) after) own
    (subst (λ t. IsFirstFrom lists (slice_index lists at) (at + 1) t) (sym is) (are.chained.nexts_are at lt))

-- ---- a search for an order

-- no row of the list before the link has the order
pub record IsPassed (list order : ℕ) (rows : List NextMove) (lists : List ℕ) (link : ℕ) : Type 0 where
  pub at_row : IsAtRow list lists link
  pub none : (k : ℕ) (d : NextMove) → k < link → k < length lists → slice_index lists k ≡ list → row_order (get_or rows k d) ≢ order

module _ (list order : ℕ) (rows : List NextMove) (lists nexts firsts lasts : List ℕ) (are : AreRowLists rows lists nexts firsts lasts) where
  pub passed-start : (link : ℕ) → list < length firsts → link ≡ slice_index firsts list → IsPassed list order rows lists link
  passed-start link lt is =
      let first = subst (λ t. IsFirstFrom lists list 0 t) (sym is) (are.chained.firsts_are list lt) in
      record {
        at_row = first-row list 0 link lists first;
        none = λ k d less within own. absurd (first.before k (omega arith) less within own);
      }

  pub passed-next : (link after : ℕ) (row : NextMove) → IsPassed list order rows lists link → link ≢ 4294967295 → row ≡ get_or rows link row → row_order row ≢ order → after ≡ slice_index nexts link → IsPassed list order rows lists after
  passed-next link after row so_far some is ne read =
      let lt = row-there list lists link so_far.at_row some in
      let first = next-first list link after rows lists nexts firsts lasts are lt (so_far.at_row.there lt) read in
      record {
        at_row = first-row list (link + 1) after lists first;
        none = λ k d less within own. elim (cases_lt k link) [
          | inl before ↦ so_far.none k d before within own
          | inr ge ↦ elim (cases_eq k link) [
            | inl e ↦ λ f. ne (ap row_order (get_or_read rows link row (omega (arith, lt, are.rows_long)) is d) ∙ ap (λ i. row_order (get_or rows i d)) (sym e) ∙ f)
            | inr other ↦ absurd (first.before k (omega (arith, ge, other)) less within own)
          ]
        ];
      }

  pub passed-end : (link : ℕ) → IsPassed list order rows lists link → link ≡ 4294967295 → IsNoRow list rows lists 0 order
  passed-end link so_far e k d le within own = so_far.none k d (omega (arith, within, e, are.few)) within own

  pub link-ascends : (link after : ℕ) → IsAtRow list lists link → link ≢ 4294967295 → after ≡ slice_index nexts link → 4294967295 - after < 4294967295 - link
  link-ascends link after at some read =
      let lt = row-there list lists link at some in
      let first = next-first list link after rows lists nexts firsts lasts are lt (at.there lt) read in
      omega (arith, first.from_le, lt, are.few)

-- ---- the rows one after another

-- the rows before the link are put in
pub record IsCopied (list : ℕ) (sofar rows : List NextMove) (lists : List ℕ) (link : ℕ) : Type 0 where
  pub at_row : IsAtRow list lists link
  pub rest : link < length lists → rows_from list sofar (drop link rows) (drop link lists) ≡ rows_from list [] rows lists
  pub all : length lists ≤ link → sofar ≡ rows_from list [] rows lists

module _ (list : ℕ) (rows : List NextMove) (lists nexts firsts lasts : List ℕ) (are : AreRowLists rows lists nexts firsts lasts) where
  copied-from : (sofar : List NextMove) (from link : ℕ) → IsFirstFrom lists list from link → from ≤ length lists → rows_from list sofar (drop from rows) (drop from lists) ≡ rows_from list [] rows lists → IsCopied list sofar rows lists link
  copied-from sofar from link first le is =
      let skipped : (to : ℕ) → from ≤ to → to ≤ link → to ≤ length lists → rows_from list sofar (drop to rows) (drop to lists) ≡ rows_from list [] rows lists = λ to low high within.
      let e : from + (to - from) ≡ to = omega (arith, low) in
      sym (
      rows-skipped list sofar (drop from rows) (drop from lists) (to - from) (omega (arith, length-drop from lists, within, low)) (length-drop from rows ∙ ap (λ n. n - from) are.rows_long ∙ sym (length-drop from lists))
      (λ k lt f. first.before (from + k) (omega arith) (omega (arith, lt, low, high)) (omega (arith, lt, low, within)) (sym (get_or-drop from lists k 0) ∙ f))
      ∙ ap (λ (rs : List NextMove). rows_from list sofar rs (drop (to - from) (drop from lists))) (drop-drop (to - from) from rows ∙ ap (λ n. drop n rows) e)
      ∙ ap (λ (ls : List ℕ). rows_from list sofar (drop to rows) ls) (drop-drop (to - from) from lists ∙ ap (λ n. drop n lists) e)
      ) ∙ is in
      record {
        at_row = first-row list from link lists first;
        rest = λ lt. skipped link first.from_le (omega arith) (omega (arith, lt));
        all = λ ge.
            sym (ap (λ (rs : List NextMove). rows_from list sofar rs (drop (length lists) lists)) (drop_all (length lists) rows (omega (arith, are.rows_long))))
            ∙ skipped (length lists) le ge (omega arith);
      }

  pub copied-start : (link : ℕ) → list < length firsts → link ≡ slice_index firsts list → IsCopied list [] rows lists link
  copied-start link lt is = copied-from [] 0 link (subst (λ t. IsFirstFrom lists list 0 t) (sym is) (are.chained.firsts_are list lt)) (omega arith) refl

  module _ (sofar : List NextMove) (link : ℕ) (row : NextMove) (so_far : IsCopied list sofar rows lists link) (some : link ≢ 4294967295) (is : row ≡ get_or rows link row) where
    in_range : link < length lists
    in_range = row-there list lists link so_far.at_row some

    put : rows_from list (with_more_row sofar row) (drop (link + 1) rows) (drop (link + 1) lists) ≡ rows_from list [] rows lists
    put =
        sym (
        ap (λ (rs : List NextMove). rows_from list sofar rs (drop link lists)) (drop_more rows link row (omega (arith, in_range, are.rows_long)) ∙ ap (λ (r : NextMove). r ∷ drop (link + 1) rows) (sym is))
        ∙ ap (λ (ls : List ℕ). rows_from list sofar (row ∷ drop (link + 1) rows) ls) (drop_more lists link 0 in_range)
        ∙ ap (λ b. rows_from list (cond b (with_more_row sofar row) sofar) (drop (link + 1) rows) (drop (link + 1) lists)) (eq-eqb (slice_index lists link) list (so_far.at_row.there in_range))
        ) ∙ so_far.rest in_range

    pub copied-room : list < length firsts → All (IsRowWithin 18446744073709551615) (with_more_row sofar row)
    copied-room lt =
        sofar-within 18446744073709551615 list (with_more_row sofar row) (drop (link + 1) rows) (drop (link + 1) lists)
        (subst (λ (rs : List NextMove). All (IsRowWithin 18446744073709551615) rs) (sym put) (are.within list lt))

    pub copied-next : (after : ℕ) (new : List NextMove) → after ≡ slice_index nexts link → new ≡ with_more_row sofar row → IsCopied list new rows lists after
    copied-next after new read made =
        copied-from new (link + 1) after (next-first list link after rows lists nexts firsts lasts are in_range (so_far.at_row.there in_range) read) (omega (arith, in_range))
        (ap (λ (rs : List NextMove). rows_from list rs (drop (link + 1) rows) (drop (link + 1) lists)) made ∙ put)

  pub copied-end : (sofar : List NextMove) (link : ℕ) → IsCopied list sofar rows lists link → link ≡ 4294967295 → sofar ≡ rows_from list [] rows lists
  copied-end sofar link so_far e = so_far.all (omega (arith, e, are.few))
