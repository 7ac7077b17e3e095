-- Lists of rows: none, one list more, a row that is counted, and a row more.
use Rattle.std.proofs.Common.{◌≡◌, ◌≢◌, ℕ, ◌+◌, ◌-◌, ◌<◌, cond, inl, inr, List, [], ◌∷◌, ◌++◌, length, get_or, set, refl, sym, ap, ◌∙◌, subst, arith}
use Rattle.std.specs.Prelude.{All, slice_index}
use Rattle.std.proofs.lemmas.Bool.{cases_eq, cases_lt, eq-eqb}
use Rattle.std.proofs.lemmas.List.{get_or-set_other, get_or-set_same, get_or_append_left, get_or_push, get_or_read, length-set, length_push, same_lists}
use Rattle.std.proofs.lemmas.List.Elements.{All-nil}
use Rattle.std.proofs.lemmas.List.FromFn.{get_or-map-range_with_len, length-map-range_with_len, map-range_with_len_more}
use Rattle.opening_tree.specs.declared.answer.NextMove.{NextMove}
use Rattle.opening_tree.specs.Groups.{IsRowWithin, row_order, row_with, with_more_row}
use Rattle.opening_tree.specs.RowLists.{AreChained, AreRowLists, IsNoRow, lists_in, rows_from}
use Rattle.opening_tree.proofs.RowListLinks.{chained-first, chained-list, chained-next}
use Rattle.opening_tree.proofs.RowListRows.{row-within, rows-counted, rows-none, rows-other, rows-pushed}
use Rattle.opening_tree.proofs.RowsGrow.{no_eq}

-- ---- the lists that are seen

pub length-lists : (count : ℕ) (rows : List NextMove) (lists : List ℕ) → length (lists_in count rows lists) ≡ count
length-lists count rows lists = length-map-range_with_len (λ l. rows_from l [] rows lists) 0 count

pub get_or-lists : (count : ℕ) (rows : List NextMove) (lists : List ℕ) (l : ℕ) (d : List NextMove) → l < count → get_or (lists_in count rows lists) l d ≡ rows_from l [] rows lists
get_or-lists count rows lists l d lt = get_or-map-range_with_len (λ k. rows_from k [] rows lists) 0 count l l d lt (omega arith)

-- one list changes
pub lists-set : (count : ℕ) (rows new : List NextMove) (lists all : List ℕ) (list : ℕ) (own : List NextMove) → list < count → ((l : ℕ) → l ≢ list → rows_from l [] new all ≡ rows_from l [] rows lists) → rows_from list [] new all ≡ own
    → lists_in count new all ≡ set (lists_in count rows lists) list own
lists-set count rows new lists all list own lt others is =
    same_lists (lists_in count new all) (set (lists_in count rows lists) list own)
    (length-lists count new all ∙ sym (length-set (lists_in count rows lists) list own ∙ length-lists count rows lists))
    (λ k d within.
    let below : k < count = omega (arith, within, length-lists count new all) in
    get_or-lists count new all k d below
    ∙ elim (cases_eq k list) [
      | inl e ↦
          ap (λ l. rows_from l [] new all) e ∙ is
          ∙ sym (ap (λ l. get_or (set (lists_in count rows lists) list own) l d) e ∙ get_or-set_same (lists_in count rows lists) list own d (omega (arith, lt, length-lists count rows lists)))
      | inr ne ↦ others k ne ∙ sym (get_or-set_other (lists_in count rows lists) list k own d ne ∙ get_or-lists count rows lists k d below)
    ])

-- ---- no list

pub row_lists-none : (rows : List NextMove) (lists nexts firsts lasts : List ℕ) → rows ≡ [] → lists ≡ [] → nexts ≡ [] → firsts ≡ [] → lasts ≡ [] → AreRowLists rows lists nexts firsts lasts
row_lists-none rows lists nexts firsts lasts r l n f la =
    let no_row : length lists ≡ 0 = ap length l in
    let no_list : length firsts ≡ 0 = ap length f in
    record {
      rows_long = ap length r ∙ sym no_row;
      nexts_long = ap length n ∙ sym no_row;
      lasts_long = ap length la ∙ sym no_list;
      few = omega (arith, no_row);
      few_lists = omega (arith, no_list);
      each_list = λ k lt. absurd (omega (arith, lt, no_row));
      chained = record {
        firsts_are = λ k lt. absurd (omega (arith, lt, no_list));
        nexts_are = λ k lt. absurd (omega (arith, lt, no_row));
        lasts_are = λ k lt. absurd (omega (arith, lt, no_list));
      };
      different = λ j k d less lt. absurd (omega (arith, lt, no_row));
      within = λ k lt. absurd (omega (arith, lt, no_list));
    }

module _ (rows : List NextMove) (lists nexts firsts lasts : List ℕ) (are : AreRowLists rows lists nexts firsts lasts) where
  -- ---- one list more

  own-none : (l : ℕ) → l ≡ length firsts → rows_from l [] rows lists ≡ []
  own-none l e = rows-none l [] rows lists (λ k lt f. omega (arith, are.each_list k lt, e, f))

  pub row_lists-list : length firsts < 4294967295 → AreRowLists rows lists nexts (firsts ++ 4294967295 ∷ []) (lasts ++ 4294967295 ∷ [])
  row_lists-list few =
      let all : length (firsts ++ 4294967295 ∷ []) ≡ length firsts + 1 = length_push firsts 4294967295 in
      record {
        rows_long = are.rows_long;
        nexts_long = are.nexts_long;
        lasts_long = omega (arith, all, length_push lasts 4294967295, are.lasts_long);
        few = are.few;
        few_lists = omega (arith, all, few);
        each_list = λ k lt. omega (arith, are.each_list k lt, all);
        chained = chained-list lists nexts firsts lasts are.chained are.lasts_long are.few are.each_list;
        different = are.different;
        within = λ l lt. elim (cases_lt l (length firsts)) [
          | inl less ↦ are.within l less
          | inr ge ↦ subst (λ (rs : List NextMove). All (IsRowWithin 18446744073709551615) rs) (sym (own-none l (omega (arith, ge, lt, all)))) (All-nil (IsRowWithin 18446744073709551615))
        ];
      }

  pub lists-more : lists_in (length (firsts ++ 4294967295 ∷ [])) rows lists ≡ lists_in (length firsts) rows lists ++ [] ∷ []
  lists-more =
      ap (λ n. lists_in n rows lists) (length_push firsts 4294967295)
      ∙ map-range_with_len_more (λ l. rows_from l [] rows lists) 0 (length firsts) (length firsts) (omega arith)
      ∙ ap (λ (rs : List NextMove). lists_in (length firsts) rows lists ++ rs ∷ []) (own-none (length firsts) refl)

  -- the last row of a list stands before the end
  pub last-below : (list : ℕ) (ends links : List ℕ) → list < length firsts → ends ≡ lasts → links ≡ nexts ++ 4294967295 ∷ [] → slice_index ends list ≢ 4294967295 → slice_index ends list < length links
  last-below list ends links lt e_ends e_links ne =
      let last : slice_index ends list ≡ slice_index lasts list = ap (λ (es : List ℕ). slice_index es list) e_ends in
      let there : slice_index lasts list < length lists = elim (cases_lt (slice_index lasts list) (length lists)) [
        | inl less ↦ less
        | inr ge ↦ absurd (ne (last ∙ (are.chained.lasts_are list lt).past ge))
      ] in
      omega (arith, last, there, ap length e_links, length_push nexts 4294967295, are.nexts_long)

  -- ---- a row that is counted

  module _ (list at : ℕ) (x m : NextMove) (lt : at < length rows) (own : slice_index lists at ≡ list) (is : x ≡ get_or rows at x) (same : row_order x ≡ row_order m) where
    abbrev counted : List NextMove
    counted = set rows at (row_with x m)

    order-kept : (k : ℕ) (d : NextMove) → row_order (get_or counted k d) ≡ row_order (get_or rows k d)
    order-kept k d = elim (cases_eq k at) [
      | inl e ↦
          ap (λ i. row_order (get_or counted i d)) e ∙ ap row_order (get_or-set_same rows at (row_with x m) d lt)
          ∙ ap row_order (get_or_read rows at x lt is d) ∙ ap (λ i. row_order (get_or rows i d)) (sym e)
      | inr ne ↦ ap row_order (get_or-set_other rows at k (row_with x m) d ne)
    ]

    pub counted-own : rows_from list [] counted lists ≡ with_more_row (rows_from list [] rows lists) m
    counted-own = rows-counted list [] rows lists at x m lt are.rows_long own is same
        (λ k d le within e f. are.different at k d (omega (arith, le)) within (own ∙ sym e)
        (sym (ap row_order (get_or_read rows at x lt is d)) ∙ same ∙ sym f))

    pub counted-other : (l : ℕ) → l ≢ list → rows_from l [] counted lists ≡ rows_from l [] rows lists
    counted-other l ne = rows-other l [] rows lists at (row_with x m) lt are.rows_long (λ e. ne (sym e ∙ own))

    pub lists-counted : list < length firsts → lists_in (length firsts) counted lists ≡ set (lists_in (length firsts) rows lists) list (with_more_row (rows_from list [] rows lists) m)
    lists-counted in_range = lists-set (length firsts) rows counted lists lists list _ in_range counted-other counted-own

    module _ (room : All (IsRowWithin 18446744073709551615) (with_more_row (rows_from list [] rows lists) m)) where
      counted-room : All (IsRowWithin 18446744073709551615) (rows_from list [] counted lists)
      counted-room = subst (λ (rs : List NextMove). All (IsRowWithin 18446744073709551615) rs) (sym counted-own) room

      pub counted-fits : IsRowWithin 18446744073709551615 (row_with x m)
      counted-fits =
          subst (IsRowWithin 18446744073709551615) (get_or-set_same rows at (row_with x m) x lt)
          (row-within 18446744073709551615 list [] counted lists at x (omega (arith, lt, length-set rows at (row_with x m))) (length-set rows at (row_with x m) ∙ are.rows_long) own counted-room)

      pub row_lists-counted : AreRowLists counted lists nexts firsts lasts
      row_lists-counted = record {
        rows_long = length-set rows at (row_with x m) ∙ are.rows_long;
        nexts_long = are.nexts_long;
        lasts_long = are.lasts_long;
        few = are.few;
        few_lists = are.few_lists;
        each_list = are.each_list;
        chained = are.chained;
        different = λ j k d less within e f. are.different j k d less within e (sym (order-kept j d) ∙ f ∙ order-kept k d);
        within = λ l less. elim (cases_eq l list) [
          | inl e ↦ subst (λ i. All (IsRowWithin 18446744073709551615) (rows_from i [] counted lists)) (sym e) counted-room
          | inr ne ↦ subst (λ (rs : List NextMove). All (IsRowWithin 18446744073709551615) rs) (sym (counted-other l ne)) (are.within l less)
        ];
      }

  -- ---- a row more

  module _ (list : ℕ) (row : NextMove) (in_range : list < length firsts) (few : length lists < 4294967295) (none : IsNoRow list rows lists 0 (row_order row)) (room : All (IsRowWithin 18446744073709551615) (with_more_row (rows_from list [] rows lists) row)) where
    abbrev pushed : List NextMove
    pushed = rows ++ row ∷ []

    abbrev tagged : List ℕ
    tagged = lists ++ list ∷ []

    pub pushed-own : rows_from list [] pushed tagged ≡ with_more_row (rows_from list [] rows lists) row
    pushed-own =
        rows-pushed list [] rows lists row list are.rows_long
        ∙ ap (λ b. cond b (with_more_row (rows_from list [] rows lists) row) (rows_from list [] rows lists)) (eq-eqb list list refl)

    pub pushed-other : (l : ℕ) → l ≢ list → rows_from l [] pushed tagged ≡ rows_from l [] rows lists
    pushed-other l ne =
        rows-pushed l [] rows lists row list are.rows_long
        ∙ ap (λ b. cond b (with_more_row (rows_from l [] rows lists) row) (rows_from l [] rows lists)) (no_eq list l (λ e. ne (sym e)))

    pub lists-pushed : (count : ℕ) → count ≡ length firsts → lists_in count pushed tagged ≡ set (lists_in (length firsts) rows lists) list (with_more_row (rows_from list [] rows lists) row)
    lists-pushed count e =
        ap (λ n. lists_in n pushed tagged) e
        ∙ lists-set (length firsts) rows pushed lists tagged list _ in_range pushed-other pushed-own

    pub row_lists-pushed : (links begins ends : List ℕ) → length links ≡ length nexts + 1 → length begins ≡ length firsts → length ends ≡ length lasts → AreChained tagged links begins ends → AreRowLists pushed tagged links begins ends
    row_lists-pushed links begins ends links_long begins_long ends_long chained =
        let all : length tagged ≡ length lists + 1 = length_push lists list in
        let old : (k : ℕ) → k < length lists → slice_index tagged k ≡ slice_index lists k = λ k lt. get_or_append_left lists (list ∷ []) 0 k lt in
        let old_row : (k : ℕ) (d : NextMove) → k < length lists → get_or pushed k d ≡ get_or rows k d = λ k d lt. get_or_append_left rows (row ∷ []) d k (omega (arith, lt, are.rows_long)) in
        record {
          rows_long = omega (arith, length_push rows row, all, are.rows_long);
          nexts_long = omega (arith, links_long, all, are.nexts_long);
          lasts_long = omega (arith, ends_long, begins_long, are.lasts_long);
          few = omega (arith, all, few);
          few_lists = omega (arith, begins_long, are.few_lists);
          each_list = λ k lt. elim (cases_lt k (length lists)) [
            | inl less ↦ omega (arith, old k less, are.each_list k less, begins_long)
            | inr ge ↦ omega (arith, get_or_push lists list 0 k (omega (arith, ge, lt, all)), in_range, begins_long)
          ];
          chained = chained;
          different = λ j k d less lt e f. elim (cases_lt k (length lists)) [
            | inl before ↦
                are.different j k d less before (sym (old j (omega (arith, less, before))) ∙ e ∙ old k before)
                (ap row_order (sym (old_row j d (omega (arith, less, before)))) ∙ f ∙ ap row_order (old_row k d before))
            | inr ge ↦
                let last : length lists ≡ k = omega (arith, ge, lt, all) in
                let first : j < length lists = omega (arith, less, last) in
                none j d (omega arith) first (sym (old j first) ∙ e ∙ get_or_push lists list 0 k last)
                (ap row_order (sym (old_row j d first)) ∙ f ∙ ap row_order (get_or_push rows row d k (are.rows_long ∙ last)))
          ];
          within = λ l lt. elim (cases_eq l list) [
            | inl e ↦ subst (λ i. All (IsRowWithin 18446744073709551615) (rows_from i [] pushed tagged)) (sym e)
                (subst (λ (rs : List NextMove). All (IsRowWithin 18446744073709551615) rs) (sym pushed-own) room)
            | inr ne ↦ subst (λ (rs : List NextMove). All (IsRowWithin 18446744073709551615) rs) (sym (pushed-other l ne)) (are.within l (omega (arith, lt, begins_long)))
          ];
        }

    -- the links as they are written
    pub chained-pushed : (last : ℕ) → slice_index lasts list ≡ last → (links begins ends : List ℕ) → ends ≡ set lasts list (length lists)
        → (last ≡ 4294967295 → (begins ≡ set firsts list (length lists)) × (links ≡ nexts ++ 4294967295 ∷ []))
        → (last ≢ 4294967295 → (begins ≡ firsts) × (links ≡ set (nexts ++ 4294967295 ∷ []) last (length lists)))
        → AreChained tagged links begins ends
    chained-pushed last is links begins ends e_ends first next = elim (cases_eq last 4294967295) [
      | inl e ↦
          subst (λ (bs : List ℕ). AreChained tagged links bs ends) (sym (first e).0)
          (subst (λ (ls : List ℕ). AreChained tagged ls (set firsts list (length lists)) ends) (sym (first e).1)
          (subst (λ (es : List ℕ). AreChained tagged (nexts ++ 4294967295 ∷ []) (set firsts list (length lists)) es) (sym e_ends)
          (chained-first lists list few nexts firsts lasts are.chained are.nexts_long are.lasts_long in_range (is ∙ e))))
      | inr ne ↦
          let there : last < length lists = elim (cases_lt last (length lists)) [
            | inl lt ↦ lt
            | inr ge ↦ absurd (ne (sym is ∙ (are.chained.lasts_are list in_range).past (omega (arith, ge, is))))
          ] in
          subst (λ (bs : List ℕ). AreChained tagged links bs ends) (sym (next ne).0)
          (subst (λ (ls : List ℕ). AreChained tagged ls firsts ends) (sym (next ne).1)
          (subst (λ (es : List ℕ). AreChained tagged (set (nexts ++ 4294967295 ∷ []) last (length lists)) firsts es) (sym e_ends)
          (chained-next lists list few nexts firsts lasts are.chained are.nexts_long are.lasts_long in_range last is there)))
    ]

    -- as the code writes them: the links before, and after a row is put behind the last of its list
    pub chained-written : (links_before begins_before ends_before links begins ends : List ℕ) → links_before ≡ nexts ++ 4294967295 ∷ [] → begins_before ≡ firsts → ends_before ≡ lasts
        → ends ≡ set ends_before list (length links_before - 1)
        → (slice_index ends_before list ≡ 4294967295 → (begins ≡ set begins_before list (length links_before - 1)) × (links ≡ links_before))
        → (slice_index ends_before list ≢ 4294967295 → (begins ≡ begins_before) × (links ≡ set links_before (slice_index ends_before list) (length links_before - 1)))
        → AreChained tagged links begins ends
    chained-written links_before begins_before ends_before links begins ends e_links e_begins e_ends written first next =
        let n : length links_before - 1 ≡ length lists = omega (arith, ap length e_links, length_push nexts 4294967295, are.nexts_long) in
        let last : slice_index ends_before list ≡ slice_index lasts list = ap (λ (es : List ℕ). slice_index es list) e_ends in
        chained-pushed (slice_index lasts list) refl links begins ends (written ∙ (λ i. set (e_ends i) list (n i)))
        (λ e. let p = first (last ∙ e) in (p.0 ∙ (λ i. set (e_begins i) list (n i)), p.1 ∙ e_links))
        (λ ne. let p = next (λ e. ne (sym last ∙ e)) in (p.0 ∙ e_begins, p.1 ∙ (λ i. set (e_links i) (last i) (n i))))

    pub row_lists-written : (all : List NextMove) (tags links begins ends : List ℕ) → all ≡ rows ++ row ∷ [] → tags ≡ lists ++ list ∷ [] → length links ≡ length nexts + 1 → length begins ≡ length firsts → length ends ≡ length lasts → AreChained (lists ++ list ∷ []) links begins ends → AreRowLists all tags links begins ends
    row_lists-written all tags links begins ends e_all e_tags links_long begins_long ends_long chained =
        subst (λ (rs : List NextMove). AreRowLists rs tags links begins ends) (sym e_all)
        (subst (λ (ts : List ℕ). AreRowLists (rows ++ row ∷ []) ts links begins ends) (sym e_tags)
        (row_lists-pushed links begins ends links_long begins_long ends_long chained))
