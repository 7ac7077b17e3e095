-- The links of the rows of lists: those of one row more.
use Rattle.std.proofs.Common.{◌≡◌, ◌≢◌, ℕ, ◌+◌, ◌<◌, ◌≤◌, inl, inr, List, [], ◌∷◌, ◌++◌, length, set, refl, sym, ap, ◌∙◌, subst, arith}
use Rattle.std.specs.Prelude.{slice_index}
use Rattle.std.proofs.lemmas.Bool.{cases_eq, cases_lt}
use Rattle.std.proofs.lemmas.List.{get_or-set_other, get_or-set_same, get_or_append_left, get_or_push, length-set, length_push}
use Rattle.opening_tree.specs.RowLists.{AreChained, IsFirstFrom, IsLastOf}

first-at : (lists : List ℕ) (list other from link to : ℕ) → IsFirstFrom lists list from link → other ≡ list → to ≡ link → IsFirstFrom lists other from to
first-at lists list other from link to first e f =
    subst (λ l. IsFirstFrom lists l from to) (sym e) (subst (λ t. IsFirstFrom lists list from t) (sym f) first)

last-at : (lists : List ℕ) (list other link to : ℕ) → IsLastOf lists list link → other ≡ list → to ≡ link → IsLastOf lists other to
last-at lists list other link to last e f =
    subst (λ l. IsLastOf lists l to) (sym e) (subst (λ t. IsLastOf lists list t) (sym f) last)

-- behind all rows there is none
pub first-end : (lists : List ℕ) (list from : ℕ) → from ≡ length lists → length lists ≤ 4294967295 → IsFirstFrom lists list from 4294967295
first-end lists list from end few = record {
  from_le = omega (arith, end, few);
  there = λ lt. absurd (omega (arith, lt, few));
  past = λ le. refl;
  before = λ k le lt within. absurd (omega (arith, le, within, end));
}

module _ (lists : List ℕ) (list : ℕ) (few : length lists < 4294967295) where
  abbrev more : List ℕ
  more = lists ++ list ∷ []

  longer : length more ≡ length lists + 1
  longer = length_push lists list

  old-at : (k : ℕ) → k < length lists → slice_index more k ≡ slice_index lists k
  old-at k lt = get_or_append_left lists (list ∷ []) 0 k lt

  new-at : (k : ℕ) → k ≡ length lists → slice_index more k ≡ list
  new-at k e = get_or_push lists list 0 k (sym e)

  first-kept : (l from link : ℕ) → IsFirstFrom lists l from link → (length lists ≤ link → l ≢ list) → IsFirstFrom more l from link
  first-kept l from link first other = record {
    from_le = first.from_le;
    there = λ lt. elim (cases_lt link (length lists)) [
      | inl less ↦ old-at link less ∙ first.there less
      | inr ge ↦ absurd (omega (arith, lt, longer, first.past ge, few))
    ];
    past = λ le. first.past (omega (arith, le, longer));
    before = λ k le less lt e. elim (cases_lt k (length lists)) [
      | inl within ↦ first.before k le less within (sym (old-at k within) ∙ e)
      | inr ge ↦ other (omega (arith, ge, less)) (sym e ∙ new-at k (omega (arith, ge, lt, longer)))
    ];
  }

  first-new : (from link : ℕ) → IsFirstFrom lists list from link → length lists ≤ link → from ≤ length lists → IsFirstFrom more list from (length lists)
  first-new from link first none le = record {
    from_le = le;
    there = λ lt. new-at (length lists) refl;
    past = λ past. absurd (omega (arith, past, longer));
    before = λ k from_le lt within e. first.before k from_le (omega (arith, lt, none)) lt (sym (old-at k lt) ∙ e);
  }

  last-kept : (l link : ℕ) → IsLastOf lists l link → l ≢ list → IsLastOf more l link
  last-kept l link last other = record {
    there = λ lt. elim (cases_lt link (length lists)) [
      | inl less ↦ old-at link less ∙ last.there less
      | inr ge ↦ absurd (omega (arith, lt, longer, last.past ge, few))
    ];
    past = λ le. last.past (omega (arith, le, longer));
    behind = λ k lt later e. elim (cases_lt k (length lists)) [
      | inl within ↦ last.behind k within (λ less. later (omega (arith, less, longer))) (sym (old-at k within) ∙ e)
      | inr ge ↦ other (sym e ∙ new-at k (omega (arith, ge, lt, longer)))
    ];
  }

  last-new : IsLastOf more list (length lists)
  last-new = record {
    there = λ lt. new-at (length lists) refl;
    past = λ past. absurd (omega (arith, past, longer));
    behind = λ k lt later. absurd (omega (arith, lt, longer, later (omega (arith, longer))));
  }

  module _ (nexts firsts lasts : List ℕ) (chained : AreChained lists nexts firsts lasts) (nexts_long : length nexts ≡ length lists) (lasts_long : length lasts ≡ length firsts) (in_range : list < length firsts) where
    abbrev linked : List ℕ
    linked = nexts ++ 4294967295 ∷ []

    old-next : (k : ℕ) → k < length lists → slice_index linked k ≡ slice_index nexts k
    old-next k lt = get_or_append_left nexts (4294967295 ∷ []) 0 k (omega (arith, lt, nexts_long))

    new-next : (k : ℕ) → k ≡ length lists → slice_index linked k ≡ 4294967295
    new-next k e = get_or_push nexts 4294967295 0 k (omega (arith, e, nexts_long))

    end-next : (k : ℕ) → k ≡ length lists → IsFirstFrom more (slice_index more k) (k + 1) 4294967295
    end-next k e = first-end more (slice_index more k) (k + 1) (omega (arith, e, longer)) (omega (arith, longer, few))

    lasts_more : (l : ℕ) → l < length firsts → IsLastOf more l (slice_index (set lasts list (length lists)) l)
    lasts_more l lt = elim (cases_eq l list) [
      | inl e ↦ last-at more list l (length lists) _ last-new e (ap (slice_index (set lasts list (length lists))) e ∙ get_or-set_same lasts list (length lists) 0 (omega (arith, in_range, lasts_long)))
      | inr ne ↦ last-at more l l (slice_index lasts l) _ (last-kept l (slice_index lasts l) (chained.lasts_are l lt) ne) refl (get_or-set_other lasts list l (length lists) 0 ne)
    ]

    -- the first row of its list
    pub chained-first : slice_index lasts list ≡ 4294967295 → AreChained more linked (set firsts list (length lists)) (set lasts list (length lists))
    chained-first none =
        let absent : (k : ℕ) → k < length lists → slice_index lists k ≢ list = λ k lt. (chained.lasts_are list in_range).behind k lt (λ less. absurd (omega (arith, less, none, few))) in
        let no_first : length lists ≤ slice_index firsts list = elim (cases_lt (slice_index firsts list) (length lists)) [
          | inl lt ↦ absurd (absent (slice_index firsts list) lt ((chained.firsts_are list in_range).there lt))
          | inr ge ↦ ge
        ] in
        record {
          firsts_are = λ l lt. elim (cases_eq l list) [
            | inl e ↦ first-at more list l 0 (length lists) _ (first-new 0 (slice_index firsts list) (chained.firsts_are list in_range) no_first (omega arith)) e
                (ap (slice_index (set firsts list (length lists))) e ∙ get_or-set_same firsts list (length lists) 0 in_range)
            | inr ne ↦ first-at more l l 0 (slice_index firsts l) _ (first-kept l 0 (slice_index firsts l) (chained.firsts_are l (omega (arith, lt, length-set firsts list (length lists)))) (λ le. ne)) refl
                (get_or-set_other firsts list l (length lists) 0 ne)
          ];
          nexts_are = λ k lt. elim (cases_lt k (length lists)) [
            | inl within ↦ first-at more (slice_index lists k) (slice_index more k) (k + 1) (slice_index nexts k) _
                (first-kept (slice_index lists k) (k + 1) (slice_index nexts k) (chained.nexts_are k within) (λ le. absent k within)) (old-at k within) (old-next k within)
            | inr ge ↦
                let e : k ≡ length lists = omega (arith, ge, lt, longer) in
                first-at more (slice_index more k) (slice_index more k) (k + 1) 4294967295 _ (end-next k e) refl (new-next k e)
          ];
          lasts_are = λ l lt. lasts_more l (omega (arith, lt, length-set firsts list (length lists)));
        }

    -- a row behind the last of its list
    pub chained-next : (last : ℕ) → slice_index lasts list ≡ last → last < length lists → AreChained more (set linked last (length lists)) firsts (set lasts list (length lists))
    chained-next last is lt_last =
        let old = subst (λ l. IsLastOf lists list l) is (chained.lasts_are list in_range) in
        let own : slice_index lists last ≡ list = old.there lt_last in
        let none : (k : ℕ) → k < length lists → last < k → slice_index lists k ≢ list = λ k lt less. old.behind k lt (λ h. less) in
        let begun : slice_index firsts list < length lists = elim (cases_lt (slice_index firsts list) (length lists)) [
          | inl lt ↦ lt
          | inr ge ↦ absurd ((chained.firsts_are list in_range).before last (omega arith) (omega (arith, ge, lt_last)) lt_last own)
        ] in
        let ended : length lists ≤ slice_index nexts last = elim (cases_lt (slice_index nexts last) (length lists)) [
          | inl lt ↦ absurd (none (slice_index nexts last) lt (omega (arith, (chained.nexts_are last lt_last).from_le)) ((chained.nexts_are last lt_last).there lt ∙ own))
          | inr ge ↦ ge
        ] in
        let room : last < length linked = omega (arith, lt_last, length_push nexts 4294967295, nexts_long) in
        record {
          firsts_are = λ l lt. elim (cases_eq l list) [
            | inl e ↦ first-kept l 0 (slice_index firsts l) (chained.firsts_are l lt) (λ ge. absurd (omega (arith, begun, subst (λ j. length lists ≤ slice_index firsts j) e ge)))
            | inr ne ↦ first-kept l 0 (slice_index firsts l) (chained.firsts_are l lt) (λ ge. ne)
          ];
          nexts_are = λ k lt. elim (cases_lt k (length lists)) [
            | inl within ↦ elim (cases_eq k last) [
              | inl e ↦
                  subst (λ j. IsFirstFrom more (slice_index more j) (j + 1) (slice_index (set linked last (length lists)) j)) (sym e)
                  (first-at more list (slice_index more last) (last + 1) (length lists) _
                  (first-new (last + 1) (slice_index nexts last) (first-at lists (slice_index lists last) list (last + 1) (slice_index nexts last) _ (chained.nexts_are last lt_last) (sym own) refl) ended (omega (arith, lt_last)))
                  (old-at last lt_last ∙ own) (get_or-set_same linked last (length lists) 0 room))
              | inr ne ↦
                  first-at more (slice_index lists k) (slice_index more k) (k + 1) (slice_index nexts k) _
                  (first-kept (slice_index lists k) (k + 1) (slice_index nexts k) (chained.nexts_are k within)
                  (λ ge e. elim (cases_lt k last) [
                    | inl before ↦ (chained.nexts_are k within).before last (omega (arith, before)) (omega (arith, ge, lt_last)) lt_last (own ∙ sym e)
                    | inr past ↦ none k within (omega (arith, past, ne)) e
                  ]))
                  (old-at k within) (get_or-set_other linked last k (length lists) 0 ne ∙ old-next k within)
            ]
            | inr ge ↦
                let e : k ≡ length lists = omega (arith, ge, lt, longer) in
                first-at more (slice_index more k) (slice_index more k) (k + 1) 4294967295 _ (end-next k e) refl
                (get_or-set_other linked last k (length lists) 0 (λ f. omega (arith, f, e, lt_last)) ∙ new-next k e)
          ];
          lasts_are = lasts_more;
        }

-- ---- one list more

pub chained-list : (lists nexts firsts lasts : List ℕ) → AreChained lists nexts firsts lasts → length lasts ≡ length firsts → length lists ≤ 4294967295 → ((k : ℕ) → k < length lists → slice_index lists k < length firsts) → AreChained lists nexts (firsts ++ 4294967295 ∷ []) (lasts ++ 4294967295 ∷ [])
chained-list lists nexts firsts lasts chained long few each =
    let other : (l k : ℕ) → l ≡ length firsts → k < length lists → slice_index lists k ≢ l = λ l k e lt f. omega (arith, each k lt, e, f) in
    record {
      firsts_are = λ l lt. elim (cases_lt l (length firsts)) [
        | inl less ↦ first-at lists l l 0 (slice_index firsts l) _ (chained.firsts_are l less) refl (get_or_append_left firsts (4294967295 ∷ []) 0 l less)
        | inr ge ↦
            let e : l ≡ length firsts = omega (arith, ge, lt, length_push firsts 4294967295) in
            first-at lists l l 0 4294967295 _ (record {
              from_le = omega arith;
              there = λ less. absurd (omega (arith, less, few));
              past = λ le. refl;
              before = λ k le less within. other l k e within;
            }) refl (get_or_push firsts 4294967295 0 l (sym e))
      ];
      nexts_are = chained.nexts_are;
      lasts_are = λ l lt. elim (cases_lt l (length firsts)) [
        | inl less ↦ last-at lists l l (slice_index lasts l) _ (chained.lasts_are l less) refl (get_or_append_left lasts (4294967295 ∷ []) 0 l (omega (arith, less, long)))
        | inr ge ↦
            let e : l ≡ length firsts = omega (arith, ge, lt, length_push firsts 4294967295) in
            last-at lists l l 4294967295 _ (record {
              there = λ less. absurd (omega (arith, less, few));
              past = λ le. refl;
              behind = λ k within later. other l k e within;
            }) refl (get_or_push lasts 4294967295 0 l (omega (arith, e, long)))
      ];
    }
