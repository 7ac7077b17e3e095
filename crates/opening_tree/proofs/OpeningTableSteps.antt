-- The table of openings: none, one that is found or begun, and one that changes.
use Prim.Native.Nat.{zero}
use Rattle.std.proofs.Common.{◌≡◌, ℕ, suc, ◌+◌, ◌<◌, ◌≤◌, Bool, true, false, cond, List, [], ◌∷◌, ◌++◌, length, get_or, set, refl, sym, ap, ◌∙◌, subst, arith}
use Rattle.std.specs.Prelude.{All, nat_eq, nat_lt}
use Rattle.std.proofs.lemmas.List.{length-set, length_push}
use Rattle.std.proofs.lemmas.List.Elements.{All-cons, All-head, All-nil, All-tail}
use Rattle.kb_geometry.specs.declared.stone.Outcome.{Outcome}
use Rattle.kb_geometry.specs.Counts.{one_if}
use Rattle.kb_geometry.specs.Outcomes.{is_black_win, is_no_win, is_white_win}
use Rattle.game_tree.specs.declared.node.Move.{Move}
use Rattle.opening_tree.specs.declared.answer.NextMove.{NextMove}
use Rattle.opening_tree.specs.declared.answer.Opening.{Opening}
use Rattle.opening_tree.specs.declared.opening_so_far.OpeningCounts.{OpeningCounts}
use Rattle.opening_tree.specs.declared.row_lists.RowLists.{RowLists}
use Rattle.opening_tree.specs.Groups.{IsRowWithin, no_row, play_order, row_order, row_with_one, with_more_row, with_row}
use Rattle.opening_tree.specs.Keys.{number_of, with_key}
use Rattle.opening_tree.specs.OpeningTables.{AreRows, IsOpeningTable, IsSaidAt, begun, changed, lists_of, opening_in, stored_in}
use Rattle.opening_tree.specs.RowLists.{AreRowLists, lists_in}
use Rattle.opening_tree.specs.StoredGroups.{IsKeyAt, Stored}
use Rattle.opening_tree.proofs.RowListRows.{row-as-more}
use Rattle.opening_tree.proofs.RowListSets.{rows-at, rows_in}
use Rattle.opening_tree.proofs.StoredTables.{key-begun, keys-begun, keys-there, length-stored, many-table, said-lt, stored-at, stored-begun, stored-changed, stored-counted, stored-listed, stored-said, stored-there}

-- ---- the same rows

-- rows and links stay
pub record AreKeptRows (old new : RowLists) : Type 0 where
  pub rows : new.rows ≡ old.rows
  pub lists : new.lists ≡ old.lists
  pub nexts : new.nexts ≡ old.nexts
  pub firsts : new.firsts.items ≡ old.firsts.items
  pub lasts : new.lasts.items ≡ old.lasts.items

pub same-rows : (r : RowLists) → AreKeptRows r r
same-rows r = record { rows = refl; lists = refl; nexts = refl; firsts = refl; lasts = refl }

pub kept-rows : (old new : RowLists) → AreKeptRows old new → AreRows old → AreRows new
kept-rows old new kept are =
    subst (λ (A : Type 0). A) (sym (λ i. AreRowLists (kept.rows i).items (kept.lists i).items (kept.nexts i).items (kept.firsts i) (kept.lasts i))) are

pub kept-lists : (old new : RowLists) → AreKeptRows old new → lists_of new ≡ lists_of old
kept-lists old new kept = λ i. lists_in (length (kept.firsts i)) (kept.rows i).items (kept.lists i).items

module _ (ks : List (List ℕ)) (cs new_cs : List OpeningCounts) (r new_r : RowLists) (table : IsOpeningTable ks cs r) (same_counts : new_cs ≡ cs) (kept : AreKeptRows r new_r) where
  pub table-kept : IsOpeningTable ks new_cs new_r
  table-kept = record {
    are_rows = kept-rows r new_r kept table.are_rows;
    counted = ap length same_counts ∙ table.counted;
    listed = ap length kept.firsts ∙ table.listed;
  }

  -- ---- found or begun

  module _ (words : List ℕ) (none : OpeningCounts) (new_ks : List (List ℕ)) (keys : new_ks ≡ with_key ks words) where
    pub table-found : number_of words ks < length new_cs → IsOpeningTable new_ks new_cs new_r
    table-found lt =
        let long : length new_ks ≡ length ks = ap length keys ∙ keys-there words ks (omega (arith, lt, ap length same_counts, table.counted)) in
        record {
          are_rows = kept-rows r new_r kept table.are_rows;
          counted = ap length same_counts ∙ table.counted ∙ sym long;
          listed = ap length kept.firsts ∙ table.listed ∙ sym long;
        }

    pub entries-found : number_of words ks < length new_cs → stored_in new_ks new_cs (lists_of new_r) ≡ begun (stored_in ks cs (lists_of r)) words (opening_in none [])
    entries-found lt =
        (λ i. stored_in (keys i) (same_counts i) (kept-lists r new_r kept i))
        ∙ stored-there words (opening_in none []) ks cs (lists_of r) (many-table ks cs r table) (omega (arith, lt, ap length same_counts, table.counted))

    module _ (ge : length new_cs ≤ number_of words ks) (all : List OpeningCounts) (pushed : all ≡ new_cs ++ none ∷ []) (last : RowLists) where
      pub table-begun : AreRows last → length last.firsts.items ≡ length new_r.firsts.items + 1 → IsOpeningTable new_ks all last
      table-begun are long =
          let more : length new_ks ≡ length ks + 1 = ap length keys ∙ keys-begun words ks (omega (arith, ge, ap length same_counts, table.counted)) in
          record {
            are_rows = are;
            counted = omega (arith, ap length pushed, length_push new_cs none, ap length same_counts, table.counted, more);
            listed = omega (arith, long, ap length kept.firsts, table.listed, more);
          }

      pub entries-begun : lists_of last ≡ lists_of new_r ++ [] ∷ [] → stored_in new_ks all (lists_of last) ≡ begun (stored_in ks cs (lists_of r)) words (opening_in none [])
      entries-begun added =
          (λ i. stored_in (keys i) (pushed i) (added i))
          ∙ (λ i. stored_in (with_key ks words) (same_counts i ++ none ∷ []) (kept-lists r new_r kept i ++ [] ∷ []))
          ∙ stored-begun words none [] ks cs (lists_of r) (many-table ks cs r table) (omega (arith, ge, ap length same_counts, table.counted))

-- its number
pub at-begun : (ks : List (List ℕ)) (cs : List OpeningCounts) (r : RowLists) → IsOpeningTable ks cs r → (words : List ℕ) (none : Opening) (entries : List Stored) (at : ℕ) → entries ≡ begun (stored_in ks cs (lists_of r)) words none → at ≡ number_of words ks → IsKeyAt entries at words
at-begun ks cs r table words none entries at made number =
    subst (λ (es : List Stored). IsKeyAt es at words) (sym made)
    (subst (λ k. IsKeyAt (begun (stored_in ks cs (lists_of r)) words none) k words) (sym number) (key-begun words none ks cs (lists_of r) (many-table ks cs r table)))

-- ---- the opening with a number

module _ (ks : List (List ℕ)) (cs : List OpeningCounts) (r : RowLists) (table : IsOpeningTable ks cs r) (at : ℕ) (lt : at < length (stored_in ks cs (lists_of r))) where
  pub at-keys : at < length ks
  at-keys = omega (arith, lt, length-stored ks cs (lists_of r) (many-table ks cs r table))

  pub at-counts : at < length cs
  at-counts = omega (arith, at-keys, table.counted)

  pub at-lists : at < length r.firsts.items
  at-lists = omega (arith, at-keys, table.listed)

  table-at : (d : Stored) (c : OpeningCounts) → get_or (stored_in ks cs (lists_of r)) at d ≡ (get_or ks at [], opening_in (get_or cs at c) (rows_in at r))
  table-at d c =
      stored-at ks cs (lists_of r) at d [] c [] (many-table ks cs r table) at-keys
      ∙ ap (λ (rs : List NextMove). (get_or ks at [], opening_in (get_or cs at c) rs)) (rows-at at r [] at-lists)

  pub key-at : (d : Stored) (key : List ℕ) → key ≡ get_or ks at [] → key ≡ (get_or (stored_in ks cs (lists_of r)) at d).0
  key-at d key is = is ∙ sym (ap (λ (s : Stored). s.0) (table-at d (record { count = 0; black = 0; white = 0; other = 0; game = 0; node = 0 })))

  pub counts-at : (d : Stored) (c : OpeningCounts) → c ≡ get_or cs at c → opening_in c (get_or (stored_in ks cs (lists_of r)) at d).1.nexts ≡ (get_or (stored_in ks cs (lists_of r)) at d).1
  counts-at d c is =
      subst (λ (s : Stored). opening_in c s.1.nexts ≡ s.1) (sym (table-at d c))
      (ap (λ (x : OpeningCounts). opening_in x (rows_in at r)) is)

  pub copy-at : (d : Stored) (rows : List NextMove) → rows ≡ rows_in at r → rows ≡ (get_or (stored_in ks cs (lists_of r)) at d).1.nexts
  copy-at d rows is = is ∙ sym (ap (λ (s : Stored). s.1.nexts) (table-at d (record { count = 0; black = 0; white = 0; other = 0; game = 0; node = 0 })))

any_counts : (cs : List OpeningCounts) (at : ℕ) (d e : OpeningCounts) → at < length cs → get_or cs at d ≡ get_or cs at e
any_counts [] at d e lt = absurd (omega (arith, lt))
any_counts (c ∷ cs) zero d e lt = refl
any_counts (c ∷ cs) (suc at) d e lt = any_counts cs at d e (omega (arith, lt))

-- ---- an opening that changes

module _ (ks : List (List ℕ)) (cs : List OpeningCounts) (r : RowLists) (table : IsOpeningTable ks cs r) (P : Opening → Type 0) (at : ℕ) (said : IsSaidAt P (stored_in ks cs (lists_of r)) at) where
  pub keys-lt : at < length ks
  keys-lt = omega (arith, said-lt P (stored_in ks cs (lists_of r)) at said, length-stored ks cs (lists_of r) (many-table ks cs r table))

  pub counts-lt : at < length cs
  counts-lt = omega (arith, keys-lt, table.counted)

  pub lists-lt : at < length r.firsts.items
  lists-lt = omega (arith, keys-lt, table.listed)

  module _ (c : OpeningCounts) (is : c ≡ get_or cs at c) where
    pub table-said : P (opening_in c (rows_in at r))
    table-said =
        subst (λ (rs : List NextMove). P (opening_in c rs)) (rows-at at r [] lists-lt)
        (subst (λ (x : OpeningCounts). P (opening_in x (get_or (lists_of r) at []))) (sym is) (stored-said P ks cs (lists_of r) at c [] said))

    pub table-counted : (new : OpeningCounts) → IsOpeningTable ks (set cs at new) r
    table-counted new = record { are_rows = table.are_rows; counted = length-set cs at new ∙ table.counted; listed = table.listed }

    pub entries-counted : (change : Opening → Opening) (new : OpeningCounts) → ((rows : List NextMove) → opening_in new rows ≡ change (opening_in c rows)) → stored_in ks (set cs at new) (lists_of r) ≡ changed change (stored_in ks cs (lists_of r)) at
    entries-counted change new made =
        stored-counted change ks cs (lists_of r) at c new [] (many-table ks cs r table)
        (made (get_or (lists_of r) at []) ∙ ap (λ (x : OpeningCounts). change (opening_in x (get_or (lists_of r) at []))) is)

    pub entries-changed : (change : Opening → Opening) (new : OpeningCounts) (rows : List NextMove) (last : RowLists) → lists_of last ≡ set (lists_of r) at rows → opening_in new rows ≡ change (opening_in c (rows_in at r)) → stored_in ks (set cs at new) (lists_of last) ≡ changed change (stored_in ks cs (lists_of r)) at
    entries-changed change new rows last added made =
        ap (stored_in ks (set cs at new)) added
        ∙ stored-changed change ks cs (lists_of r) at c new [] rows (many-table ks cs r table)
        (made ∙ ap (λ (x : OpeningCounts). change (opening_in x (rows_in at r))) is ∙ ap (λ (rs : List NextMove). change (opening_in (get_or cs at c) rs)) (sym (rows-at at r [] lists-lt)))

  -- what is said of its rows
  pub rows-said : ((o : Opening) → P o → All (IsRowWithin 18446744073709551614) o.nexts) → All (IsRowWithin 18446744073709551614) (rows_in at r)
  rows-said of_rows = told cs refl
    where
      told : (ds : List OpeningCounts) → ds ≡ cs → All (IsRowWithin 18446744073709551614) (rows_in at r)
      told [] e = absurd (omega (arith, ap length e, counts-lt))
      told (x ∷ ds) e = of_rows (opening_in (get_or cs at x) (rows_in at r)) (table-said (get_or cs at x) (any_counts cs at x (get_or cs at x) counts-lt))

  pub entries-listed : (change : Opening → Opening) (rows : List NextMove) (last : RowLists) → lists_of last ≡ set (lists_of r) at rows → ((x : OpeningCounts) → opening_in x rows ≡ change (opening_in x (rows_in at r))) → stored_in ks cs (lists_of last) ≡ changed change (stored_in ks cs (lists_of r)) at
  entries-listed change rows last added made =
      ap (stored_in ks cs) added ∙ listed cs refl
    where
      listed : (ds : List OpeningCounts) → ds ≡ cs → stored_in ks cs (set (lists_of r) at rows) ≡ changed change (stored_in ks cs (lists_of r)) at
      listed [] e = absurd (omega (arith, ap length e, counts-lt))
      listed (d ∷ ds) e =
          stored-listed change ks cs (lists_of r) at d [] rows (many-table ks cs r table)
          (made (get_or cs at d) ∙ ap (λ (rs : List NextMove). change (opening_in (get_or cs at d) rs)) (sym (rows-at at r [] lists-lt)))

pub table-listed : (ks : List (List ℕ)) (cs : List OpeningCounts) (r last : RowLists) → IsOpeningTable ks cs r → AreRows last → length last.firsts.items ≡ length r.firsts.items → IsOpeningTable ks cs last
table-listed ks cs r last table are long = record { are_rows = are; counted = table.counted; listed = long ∙ table.listed }

pub table-changed : (ks : List (List ℕ)) (cs : List OpeningCounts) (r last : RowLists) (at : ℕ) (new : OpeningCounts) → IsOpeningTable ks cs r → AreRows last → length last.firsts.items ≡ length r.firsts.items → IsOpeningTable ks (set cs at new) last
table-changed ks cs r last at new table are long = record { are_rows = are; counted = length-set cs at new ∙ table.counted; listed = long ∙ table.listed }

-- ---- room for a next move

one-le : (b : Bool) → one_if b ≤ 1
one-le true = omega arith
one-le false = omega arith

counted-within : (row : NextMove) (ended : Outcome) → IsRowWithin 18446744073709551614 row → IsRowWithin 18446744073709551615 (row_with_one row ended)
counted-within row ended is = record {
  count = omega (arith, is.count);
  black = omega (arith, is.black, one-le (is_black_win ended));
  white = omega (arith, is.white, one-le (is_white_win ended));
  other = omega (arith, is.other, one-le (is_no_win ended));
}

none-within : (played : Move) → IsRowWithin 18446744073709551614 (no_row played)
none-within played = record { count = omega arith; black = omega arith; white = omega arith; other = omega arith }

within-more : (rows : List NextMove) → All (IsRowWithin 18446744073709551614) rows → All (IsRowWithin 18446744073709551615) rows
within-more rows all k d lt = let one = all k d lt in record {
  count = omega (arith, one.count);
  black = omega (arith, one.black);
  white = omega (arith, one.white);
  other = omega (arith, one.other);
}

row-within : (rows : List NextMove) (played : Move) (ended : Outcome) → All (IsRowWithin 18446744073709551614) rows → All (IsRowWithin 18446744073709551615) (with_row rows played ended)
row-within [] played ended all = All-cons (IsRowWithin 18446744073709551615) (row_with_one (no_row played) ended) [] (counted-within (no_row played) ended (none-within played)) (All-nil (IsRowWithin 18446744073709551615))
row-within (r ∷ rs) played ended all = by (nat_eq (row_order r) (play_order played.colour played.point)) (nat_lt (row_order r) (play_order played.colour played.point)) (row-within rs played ended (All-tail (IsRowWithin 18446744073709551614) r rs all))
  where
    first : IsRowWithin 18446744073709551614 r
    first = All-head (IsRowWithin 18446744073709551614) r rs all

    same : All (IsRowWithin 18446744073709551615) (r ∷ rs)
    same = within-more (r ∷ rs) all

    by : (b c : Bool) → All (IsRowWithin 18446744073709551615) (with_row rs played ended) → All (IsRowWithin 18446744073709551615) (cond b (row_with_one r ended ∷ rs) (cond c (r ∷ with_row rs played ended) (row_with_one (no_row played) ended ∷ r ∷ rs)))
    by true c rest = All-cons (IsRowWithin 18446744073709551615) (row_with_one r ended) rs (counted-within r ended first) (All-tail (IsRowWithin 18446744073709551615) r rs same)
    by false true rest = All-cons (IsRowWithin 18446744073709551615) r (with_row rs played ended) (All-head (IsRowWithin 18446744073709551615) r rs same) rest
    by false false rest = All-cons (IsRowWithin 18446744073709551615) (row_with_one (no_row played) ended) (r ∷ rs) (counted-within (no_row played) ended (none-within played)) same

-- a next move as a row of it alone
pub next-as-row : (rows : List NextMove) (played : Move) (ended : Outcome) (row : NextMove) → row ≡ row_with_one (no_row played) ended → with_more_row rows row ≡ with_row rows played ended
next-as-row rows played ended row is = ap (with_more_row rows) is ∙ sym (row-as-more rows played ended)

pub put-room : (rows : List NextMove) (played : Move) (ended : Outcome) (row : NextMove) → row ≡ row_with_one (no_row played) ended → All (IsRowWithin 18446744073709551614) rows → All (IsRowWithin 18446744073709551615) (with_more_row rows row)
put-room rows played ended row is all = subst (λ (rs : List NextMove). All (IsRowWithin 18446744073709551615) rs) (sym (next-as-row rows played ended row is)) (row-within rows played ended all)
