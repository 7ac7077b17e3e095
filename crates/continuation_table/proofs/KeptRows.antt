-- The rows of one hit more.
use Rattle.std.proofs.Common.{eqb, ◌≡◌, ℕ, ◌+◌, ◌-◌, ◌<◌, ◌≤◌, inl, inr, Bool, true, false, cond, List, [], ◌∷◌, ◌++◌, length, get_or, set, take, Option, Some, None, refl, sym, ap, subst, ◌∙◌, arith}
use Rattle.std.specs.Prelude.{All, Any, IfSome, ◌&&◌, count_by, filter}
use Rattle.std.specs.Option.{option_map_or}
use Rattle.std.specs.List.{insert}
use Rattle.std.proofs.lemmas.Bool.{and_from, and_parts, cases_eq, cases_lt, eq-eqb, eqb-true, false_from_ne_true}
use Rattle.std.proofs.lemmas.List.{append-nil, get_or_default, get_or-set_other, get_or-set_same, length-append, length-set, take_more}
use Rattle.std.proofs.lemmas.List.Edits.{get_or-insert_above, get_or-insert_at, length-insert}
use Rattle.std.proofs.lemmas.List.Elements.{All-head, All-push, All-tail, All-weaker, filter-append}
use Rattle.std.proofs.lemmas.List.Sums.{count_by-le-length, length-filter}
use Rattle.kb_geometry.specs.declared.stone.Colour.{Colour}
use Rattle.kb_geometry.specs.declared.stone.Colour.TheVariants as colour
use Rattle.pattern_images.specs.declared.hit.Hit.{Hit}
use Rattle.pattern_images.specs.declared.hit.Next.{Next}
use Rattle.continuation_table.specs.declared.table.Row.{Row}
use Rattle.continuation_table.specs.declared.tally.Tally.{Tally}
use Rattle.continuation_table.specs.Counting.{HaveSameNext, IsPlaceIn, IsRowAdded, IsWithinCount, absent, counted, one_more}
use Rattle.kb_geometry.specs.Counts.{one_if}
use Rattle.continuation_table.specs.Table.{AreRows, IsRowOf, IsTold, going_on, goes_on, is_colour, is_later, is_no_win, is_now, is_win, tally_of}
use Rattle.continuation_table.proofs.RowOrder.{at_above, at_below, at_place, new_before, no_same, only_one, ordered_insert, ordered_set, same_self, set_same}

-- ---- counts and tallies

count_by-push : (p : Hit → Bool) (hits : List Hit) (hit : Hit) → count_by p (hits ++ hit ∷ []) ≡ count_by p hits + one_if (p hit)
count_by-push p hits hit =
    sym (length-filter p (hits ++ hit ∷ []))
    ∙ ap length (filter-append p hits (hit ∷ []))
    ∙ length-append (filter p hits) (filter p (hit ∷ []))
    ∙ ap (λ (n : ℕ). n + length (filter p (hit ∷ []))) (length-filter p hits)
    ∙ ap (λ (n : ℕ). count_by p hits + n) (one (p hit))
  where
    one : (b : Bool) → length (cond b (hit ∷ []) []) ≡ one_if b
    one true = refl
    one false = refl

same_tally : (a b : Tally) → a.count ≡ b.count → a.now ≡ b.now → a.later ≡ b.later → a.black ≡ b.black → a.white ≡ b.white → a.other ≡ b.other → a ≡ b
same_tally a b count now later black white other =
    numbers a.count a.now a.later a.black a.white a.other b.count b.now b.later b.black b.white b.other count now later black white other
  where
    numbers : (c n l b w o d m k a v p : ℕ) → c ≡ d → n ≡ m → l ≡ k → b ≡ a → w ≡ v → o ≡ p → ◌≡◌ {A = Tally} (record { count = c; now = n; later = l; black = b; white = w; other = o }) (record { count = d; now = m; later = k; black = a; white = v; other = p })
    numbers c n l b w o d m k a v p e f g h i j = rw (e, f, g, h, i, j) refl

pub tally_of-push : (hits : List Hit) (hit : Hit) → tally_of (hits ++ hit ∷ []) ≡ counted (tally_of hits) hit
tally_of-push hits hit =
    same_tally (tally_of (hits ++ hit ∷ [])) (counted (tally_of hits) hit) (length-append hits (hit ∷ [])) (count_by-push is_now hits hit) (count_by-push is_later hits hit)
    (count_by-push (is_win colour.Black) hits hit) (count_by-push (is_win colour.White) hits hit) (count_by-push is_no_win hits hit)

pub within_count : (hits : List Hit) (most : ℕ) → length hits ≤ most → IsWithinCount most (tally_of hits)
within_count hits most few = record {
  count = few;
  now = omega (arith, few, count_by-le-length is_now hits);
  later = omega (arith, few, count_by-le-length is_later hits);
  black = omega (arith, few, count_by-le-length (is_win colour.Black) hits);
  white = omega (arith, few, count_by-le-length (is_win colour.White) hits);
  other = omega (arith, few, count_by-le-length is_no_win hits);
}

-- each row counts some of the hits
pub rows_within : (hits : List Hit) (rows : List Row) (most : ℕ) → AreRows hits rows → length hits ≤ most → All (λ (row : Row). IsWithinCount most row.tally) rows
rows_within hits rows most are few =
    All-weaker (IsTold hits) (λ (row : Row). IsWithinCount most row.tally)
    (λ row told. subst (IsWithinCount most) (sym told.tally)
    (within_count (going_on row.colour row.x row.y hits) most
    (omega (arith, few, length-filter (goes_on row.colour row.x row.y) hits, count_by-le-length (goes_on row.colour row.x row.y) hits)))) rows are.sound

-- ---- which hits go on so

one_colour : (a b : Colour) → is_colour a b ≡ true → b ≡ a
one_colour colour.Black colour.Black e = refl
one_colour colour.White colour.White e = refl
one_colour colour.Black colour.White e = absurd cc
one_colour colour.White colour.Black e = absurd cc

colour_self : (a : Colour) → is_colour a a ≡ true
colour_self colour.Black = refl
colour_self colour.White = refl

-- whether the row is of this continuation
abbrev pub goes_by : Option Next → Row → Bool
goes_by o row = option_map_or (λ (next : Next). is_colour next.colour row.colour && eqb next.x row.x && eqb next.y row.y) o false

pub goes_by-told : (next : Next) (row : Row) → goes_by (Some next) row ≡ true → IsRowOf next row
goes_by-told next row e =
    let p = and_parts (is_colour next.colour row.colour && eqb next.x row.x) (eqb next.y row.y) e in
    let q = and_parts (is_colour next.colour row.colour) (eqb next.x row.x) p.0 in
    (one_colour next.colour row.colour q.0, sym (eqb-true next.x row.x q.1), sym (eqb-true next.y row.y p.1))

goes_by-row : (next : Next) (row : Row) → IsRowOf next row → goes_by (Some next) row ≡ true
goes_by-row next row is =
    and_from (is_colour next.colour row.colour && eqb next.x row.x) (eqb next.y row.y)
    (and_from (is_colour next.colour row.colour) (eqb next.x row.x) (subst (λ (c : Colour). is_colour next.colour c ≡ true) (sym is.0) (colour_self next.colour)) (eq-eqb next.x row.x (sym is.1)))
    (eq-eqb next.y row.y (sym is.2))

-- ---- a row, with one hit more

module _ (hits : List Hit) (hit : Hit) (row : Row) where
  going_on-push : (b : Bool) → goes_on row.colour row.x row.y hit ≡ b → going_on row.colour row.x row.y (hits ++ hit ∷ []) ≡ going_on row.colour row.x row.y hits ++ cond b (hit ∷ []) []
  going_on-push b e =
      filter-append (goes_on row.colour row.x row.y) hits (hit ∷ [])
      ∙ ap (λ (t : Bool). going_on row.colour row.x row.y hits ++ cond t (hit ∷ []) []) e

  -- a hit that goes on otherwise changes nothing
  told_other : goes_on row.colour row.x row.y hit ≡ false → IsTold hits row → IsTold (hits ++ hit ∷ []) row
  told_other e told =
      let same : going_on row.colour row.x row.y (hits ++ hit ∷ []) ≡ going_on row.colour row.x row.y hits = going_on-push false e ∙ append-nil (going_on row.colour row.x row.y hits) in
      record { some = subst (λ (hs : List Hit). 1 ≤ length hs) (sym same) told.some; tally = told.tally ∙ ap tally_of (sym same) }

  -- one that goes on so is counted
  told_one_more : goes_on row.colour row.x row.y hit ≡ true → (before : Tally) → before ≡ tally_of (going_on row.colour row.x row.y hits) → row.tally ≡ counted before hit → IsTold (hits ++ hit ∷ []) row
  told_one_more e before was is =
      let more : going_on row.colour row.x row.y (hits ++ hit ∷ []) ≡ going_on row.colour row.x row.y hits ++ hit ∷ [] = going_on-push true e in
      record {
        some = subst (λ (hs : List Hit). 1 ≤ length hs) (sym more) (omega (arith, length-append (going_on row.colour row.x row.y hits) (hit ∷ [])));
        tally = is ∙ ap (λ (t : Tally). counted t hit) was ∙ sym (tally_of-push (going_on row.colour row.x row.y hits) hit) ∙ ap tally_of (sym more);
      }

none_passes : (p : Hit → Bool) (hits : List Hit) → All (λ (h : Hit). p h ≡ false) hits → filter p hits ≡ []
none_passes p [] none = refl
none_passes p (h ∷ hs) none =
    ap (λ (b : Bool). cond b (h ∷ filter p hs) (filter p hs)) (All-head (λ (x : Hit). p x ≡ false) h hs none)
    ∙ none_passes p hs (All-tail (λ (x : Hit). p x ≡ false) h hs none)

some_at : (P : Row → Type 0) (rows : List Row) (k : ℕ) (d : Row) → k < length rows → P (get_or rows k d) → Any P rows
some_at P rows k d lt p = (k, get_or rows k d, lt, get_or_default rows k (get_or rows k d) d lt, p)

-- the continuation has a row
abbrev HasRow : List Row → Option Next → Type 0
HasRow rows o = IfSome o (λ next. Any (IsRowOf next) rows)

has_row_still : (old new : List Row) → ((next : Next) → Any (IsRowOf next) old → Any (IsRowOf next) new) → (o : Option Next) → HasRow old o → HasRow new o
has_row_still old new keeps None h = tt
has_row_still old new keeps (Some next) h = keeps next h

-- ---- a hit that doesn't go on

pub AreRows-none : (hits : List Hit) (rows : List Row) (hit : Hit) → AreRows hits rows → hit.next ≡ None → AreRows (hits ++ hit ∷ []) rows
AreRows-none hits rows hit are ends = record {
  ordered = are.ordered;
  sound = All-weaker (IsTold hits) (IsTold (hits ++ hit ∷ [])) (λ row told. told_other hits hit row (ap (λ (o : Option Next). goes_by o row) ends) told) rows are.sound;
  complete = All-push (λ (h : Hit). HasRow rows h.next) hits hit are.complete (subst (HasRow rows) (sym ends) tt);
}

-- ---- a hit that goes on

module _ (hits : List Hit) (rows : List Row) (hit : Hit) (are : AreRows hits rows) (next : Next) (goes : hit.next ≡ Some next) (new : Row) (of : IsRowOf next new) where
  -- a row of another continuation keeps its tally
  other_row : (row : Row) → ¬ HaveSameNext row new → IsTold hits row → IsTold (hits ++ hit ∷ []) row
  other_row row differ told =
      told_other hits hit row
      (false_from_ne_true (goes_on row.colour row.x row.y hit) (λ e.
      let is = goes_by-told next row (sym (ap (λ (o : Option Next). goes_by o row) goes) ∙ e) in
      differ (is.0 ∙ sym of.0, is.1 ∙ sym of.1, is.2 ∙ sym of.2))) told

  counts : (row : Row) → HaveSameNext row new → goes_on row.colour row.x row.y hit ≡ true
  counts row same = ap (λ (o : Option Next). goes_by o row) goes ∙ goes_by-row next row (same.0 ∙ of.0, same.1 ∙ of.1, same.2 ∙ of.2)

  complete_from : (after : List Row) → ((n : Next) → Any (IsRowOf n) rows → Any (IsRowOf n) after) → Any (IsRowOf next) after → All (λ (h : Hit). HasRow after h.next) (hits ++ hit ∷ [])
  complete_from after keeps has =
      All-push (λ (h : Hit). HasRow after h.next) hits hit
      (All-weaker (λ (h : Hit). HasRow rows h.next) (λ (h : Hit). HasRow after h.next) (λ h. has_row_still rows after keeps h.next) hits are.complete)
      (subst (HasRow after) (sym goes) has)

  -- its row is there
  module _ (i : ℕ) (d : Row) (lt : i < length rows) (same : HaveSameNext (get_or rows i d) new) where
    abbrev old_row : Row
    old_row = get_or rows i d

    abbrev set_row : Row
    set_row = record { colour = old_row.colour; x = old_row.x; y = old_row.y; tally = counted old_row.tally hit }

    set_told : (k : ℕ) (e : Row) → k < length rows → IsTold (hits ++ hit ∷ []) (get_or (set rows i set_row) k e)
    set_told k e in_range =
        elim (cases_eq k i) [
          | inl here ↦
              let at : get_or (set rows i set_row) k e ≡ set_row = ap (λ (j : ℕ). get_or (set rows i set_row) j e) here ∙ get_or-set_same rows i set_row e lt in
              subst (IsTold (hits ++ hit ∷ [])) (sym at) (told_one_more hits hit set_row (counts set_row same) old_row.tally (are.sound i d lt).tally refl)
          | inr other ↦
              subst (IsTold (hits ++ hit ∷ [])) (sym (get_or-set_other rows i k set_row e other))
              (other_row (get_or rows k e) (λ too. other (same_index k e in_range too)) (are.sound k e in_range))
        ]
      where
        same_index : (k : ℕ) (e : Row) → k < length rows → HaveSameNext (get_or rows k e) new → k ≡ i
        same_index k e in_range too = only_one rows are.ordered new k i e d in_range lt too same

    set_has : (n : Next) → Any (IsRowOf n) rows → Any (IsRowOf n) (set rows i set_row)
    set_has n (k, x, in_range, is, p) =
        let s = set_same rows are.ordered i set_row d lt (same_self old_row) k x in_range in
        let r : IsRowOf n (get_or rows k x) = subst (IsRowOf n) (sym is) p in
        some_at (IsRowOf n) (set rows i set_row) k x (omega (arith, in_range, length-set rows i set_row)) (sym s.0 ∙ r.0, sym s.1 ∙ r.1, sym s.2 ∙ r.2)

    rows_set : AreRows (hits ++ hit ∷ []) (set rows i set_row)
    rows_set = record {
      ordered = ordered_set rows are.ordered i set_row d lt (same_self old_row);
      sound = λ k e in_range. set_told k e (omega (arith, in_range, length-set rows i set_row));
      complete = complete_from (set rows i set_row) set_has
          (set_has next (some_at (IsRowOf next) rows i d lt (same.0 ∙ of.0, same.1 ∙ of.1, same.2 ∙ of.2)));
    }

  -- it is put in
  module _ (i : ℕ) (place : IsPlaceIn rows new i) (missing : (d : Row) → i < length rows → ¬ HaveSameNext (get_or rows i d) new) (first : new.tally ≡ counted (tally_of []) hit) where
    differs : (k : ℕ) (d : Row) → k < length rows → ¬ HaveSameNext (get_or rows k d) new
    differs = no_same rows are.ordered new i place missing

    no_hit : All (λ (h : Hit). goes_on new.colour new.x new.y h ≡ false) hits
    no_hit = All-weaker (λ (h : Hit). HasRow rows h.next) (λ (h : Hit). goes_on new.colour new.x new.y h ≡ false) (λ h. goes_otherwise h.next) hits are.complete
      where
        goes_otherwise : (o : Option Next) → HasRow rows o → goes_by o new ≡ false
        goes_otherwise None h = refl
        goes_otherwise (Some n) (k, x, in_range, is, p) =
            false_from_ne_true (goes_by (Some n) new) (λ e.
            let own = goes_by-told n new e in
            let r : IsRowOf n (get_or rows k x) = subst (IsRowOf n) (sym is) p in
            differs k x in_range (r.0 ∙ sym own.0, r.1 ∙ sym own.1, r.2 ∙ sym own.2))

    new_told : IsTold (hits ++ hit ∷ []) new
    new_told = told_one_more hits hit new (counts new (same_self new)) (tally_of []) (ap tally_of (sym (none_passes (goes_on new.colour new.x new.y) hits no_hit))) first

    insert_told : (k : ℕ) (e : Row) → k < length rows + 1 → IsTold (hits ++ hit ∷ []) (get_or (insert rows i new) k e)
    insert_told k e in_range =
        elim (cases_lt k i) [
          | inl low ↦ subst (IsTold (hits ++ hit ∷ [])) (sym (at_below rows are.ordered i new place.within k e low)) (other_row (get_or rows k e) (differs k e (omega (arith, place.within))) (are.sound k e (omega (arith, place.within))))
          | inr high ↦ elim (cases_eq k i) [
            | inl here ↦ subst (IsTold (hits ++ hit ∷ [])) (sym (at_place rows are.ordered i new place.within k e here)) new_told
            | inr behind ↦ subst (IsTold (hits ++ hit ∷ [])) (sym (at_above rows are.ordered i new place.within k e (omega arith))) (other_row (get_or rows (k - 1) e) (differs (k - 1) e (omega arith)) (are.sound (k - 1) e (omega arith)))
          ]
        ]

    insert_has : (n : Next) → Any (IsRowOf n) rows → Any (IsRowOf n) (insert rows i new)
    insert_has n (k, x, in_range, is, p) =
        let r : IsRowOf n (get_or rows k x) = subst (IsRowOf n) (sym is) p in
        elim (cases_lt k i) [
          | inl low ↦ some_at (IsRowOf n) (insert rows i new) k x (omega (arith, length-insert rows i new place.within)) (subst (IsRowOf n) (sym (at_below rows are.ordered i new place.within k x low)) r)
          | inr high ↦ some_at (IsRowOf n) (insert rows i new) (k + 1) x (omega (arith, length-insert rows i new place.within)) (subst (IsRowOf n) (sym (get_or-insert_above rows i new x k high place.within)) r)
        ]

    rows_inserted : AreRows (hits ++ hit ∷ []) (insert rows i new)
    rows_inserted = record {
      ordered = ordered_insert rows are.ordered i new place.within (λ k d lt. place.before k d lt) (λ k d le lt. new_before rows are.ordered new i place missing k d le lt);
      sound = λ k e in_range. insert_told k e (omega (arith, in_range, length-insert rows i new place.within));
      complete = complete_from (insert rows i new) insert_has
          (some_at (IsRowOf next) (insert rows i new) i new (omega (arith, place.within, length-insert rows i new place.within)) (subst (IsRowOf next) (sym (get_or-insert_at rows i new new place.within)) of));
    }

  pub AreRows-added : (after : List Row) → new.tally ≡ counted (tally_of []) hit → IsRowAdded hit rows new after → AreRows (hits ++ hit ∷ []) after
  AreRows-added after first (one_more i d place lt same) = rows_set i d lt same
  AreRows-added after first (absent i place missing) = rows_inserted i place missing first

-- as the code sets a row
pub row_there : (hit : Hit) (old : List Row) (new : Row) (i : ℕ) (row : Row) (tally : Tally) → IsPlaceIn old new i → i < length old → row ≡ get_or old i row → HaveSameNext row new → tally ≡ counted row.tally hit → IsRowAdded hit old new (set old i (record { colour = row.colour; x = row.x; y = row.y; tally = tally }))
row_there hit old new i row tally place lt is same told =
    subst (λ (r : Row). IsRowAdded hit old new (set old i r))
    (ap (λ (r : Row). record { colour = r.colour; x = r.x; y = r.y; tally = counted r.tally hit }) (sym is) ∙ ap (λ (t : Tally). record { colour = row.colour; x = row.x; y = row.y; tally = t }) (sym told))
    (one_more i row place lt (subst (λ (r : Row). HaveSameNext r new) is same))

-- no hit has no row
pub AreRows-start : AreRows [] []
AreRows-start = record { ordered = λ i j d less lt. absurd (omega arith); sound = λ k d lt. absurd (omega arith); complete = λ k d lt. absurd (omega arith) }

-- ---- as the code goes over the hits

module _ (hits : List Hit) (k : ℕ) (hit : Hit) (lt : k < length hits) (is : hit ≡ get_or hits k hit) where
  take_next : take (k + 1) hits ≡ take k hits ++ hit ∷ []
  take_next = take_more hits k hit lt ∙ ap (λ (h : Hit). take k hits ++ h ∷ []) (sym is)

  pub totals_next : (totals after : Tally) → totals ≡ tally_of (take k hits) → after ≡ counted totals hit → after ≡ tally_of (take (k + 1) hits)
  totals_next totals after was is_more = is_more ∙ ap (λ (t : Tally). counted t hit) was ∙ sym (tally_of-push (take k hits) hit) ∙ ap tally_of (sym take_next)

  pub rows_past : (rows : List Row) → AreRows (take k hits) rows → hit.next ≡ None → AreRows (take (k + 1) hits) rows
  rows_past rows are ends = subst (λ (hs : List Hit). AreRows hs rows) (sym take_next) (AreRows-none (take k hits) rows hit are ends)

  pub rows_next : (rows after : List Row) → AreRows (take k hits) rows → (next : Next) → hit.next ≡ Some next → (new : Row) → new ≡ record { colour = next.colour; x = next.x; y = next.y; tally = counted (tally_of []) hit } → IsRowAdded hit rows new after → AreRows (take (k + 1) hits) after
  rows_next rows after are next goes new told added =
      subst (λ (hs : List Hit). AreRows hs after) (sym take_next)
      (AreRows-added (take k hits) rows hit are next goes new (ap (λ (r : Row). r.colour) told, ap (λ (r : Row). r.x) told, ap (λ (r : Row). r.y) told) after (ap (λ (r : Row). r.tally) told) added)
