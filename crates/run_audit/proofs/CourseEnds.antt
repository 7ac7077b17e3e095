-- What is kept of the imports at the end of the pass over the record is what it shows of them.
use Rattle.std.proofs.Common.{◌≡◌, ◌≢◌, ◌∙◌, inl, inr, ℕ, suc, ◌+◌, ◌^◌, ◌<◌, ◌≤◌, All, AllPairs, Bool, false, List, [], ◌∷◌, ◌++◌, append-nil, append_assoc, drop, get_or, length, map, set, take, refl, sym, ap, ap₂, subst, arith, true≢false}
use Rattle.std.specs.Borrow.{Bor}
use Rattle.std.specs.Prelude.{Contains}
use Rattle.std.specs.Cmp.Lexicographic.{slice_cmp}
use Rattle.std.specs.List.Sorted.{IsPermutation, IsSorted}
use Rattle.std.specs.Ordering.{is_lt, nat_cmp}
use Rattle.std.specs.declared.cmp.Ordering.TheVariants.{Less}
use Rattle.std.proofs.lemmas.Bool.{cases_eq}
use Rattle.std.proofs.lemmas.Cmp.{nat_list_cmp_total}
use Rattle.std.proofs.lemmas.List.{get_or_default, get_or-set_other, get_or-set_same, length-map, length-set, map-append, take-append-le, take_all, take_more}
use Rattle.std.proofs.lemmas.List.Sorted.{Contains-permutation, IsPermutation-map, IsPermutation-sym, ranks_by, sorted_far}
use Rattle.std.proofs.Math.ListN.{get_or-map}
use Rattle.query_script.specs.declared.statement.Placed.{Placed}
use Rattle.query_script.specs.declared.statement.Statement.{Statement}
use Rattle.query_script.specs.declared.statement.Statement.TheVariants as statement
use Rattle.run_audit.specs.Courses.{AreAscending, AreNumbered, HasNamesSorted, Seen, ShowsImport, import_lines, nothing_seen, seen_after, seen_of, unread_in}
use Rattle.run_audit.specs.Shown.{is_shown_unlisted, is_shown_unread, lines_in, lines_told}
use Rattle.run_audit.specs.declared.course.ShownImport.{ShownImport}
use Rattle.run_audit.proofs.CourseSteps.{all-unlisted, all-unread, names-told, told-names}
use Rattle.run_audit.proofs.SeenLines.{ascending-same}

-- ---- names in order

abbrev texts : List (Bor (List ℕ)) → List (List ℕ)
texts names = map (λ (name : Bor (List ℕ)). name.now) names

names-ascend : (names : List (Bor (List ℕ))) → IsSorted (λ (a b : Bor (List ℕ)). slice_cmp nat_cmp a.now b.now) names → AllPairs (λ x y. slice_cmp nat_cmp y x ≢ Less) (texts names)
names-ascend [] rises i j d less below low = omega (arith, below)
names-ascend (e ∷ names) rises i j d less below low =
    let within : j < length (e ∷ names) = omega (arith, below, length-map (e ∷ names) (λ (x : Bor (List ℕ)). x.now)) in
    let text_is = λ (k : ℕ) (inside : k < length (texts (e ∷ names))). get_or_default (texts (e ∷ names)) k d e.now inside ∙ get_or-map (λ (x : Bor (List ℕ)). x.now) (e ∷ names) k e in
    let far = sorted_far (λ (a b : Bor (List ℕ)). is_lt (slice_cmp nat_cmp a.now b.now)) (ranks_by nat_list_cmp_total (λ (a : Bor (List ℕ)). a.now)) (e ∷ names) rises i j e (omega (arith, less)) within in
    true≢false (sym (ap is_lt (ap₂ (slice_cmp nat_cmp) (sym (text_is j below)) (sym (text_is i (omega (arith, less, below)))) ∙ low)) ∙ far)

pub names-sorted : (before after : ShownImport) → after.line ≡ before.line → after.unlisted ≡ before.unlisted → IsPermutation before.unread.items after.unread.items → IsSorted (λ (a b : Bor (List ℕ)). slice_cmp nat_cmp a.now b.now) after.unread.items → HasNamesSorted before after
names-sorted before after line_is unlisted_is moved rises =
    let there = IsPermutation-map (λ (name : Bor (List ℕ)). name.now) before.unread.items after.unread.items moved in
    record {
      line = line_is;
      unlisted = unlisted_is;
      ascending = names-ascend after.unread.items rises;
      names = λ name. (
        Contains-permutation (unread_in after) (unread_in before) name (IsPermutation-sym (unread_in before) (unread_in after) there),
        Contains-permutation (unread_in before) (unread_in after) name there,
      );
    }

-- so many imports have them in order, and the others are as they were
pub record SortedTo (before now : List ShownImport) (count : ℕ) : Type 0 where
  pub counted : length now ≡ length before
  pub sorted : (at : ℕ) (d : ShownImport) → at < count → at < length before → HasNamesSorted (get_or before at d) (get_or now at d)
  pub left : (at : ℕ) (d : ShownImport) → count ≤ at → get_or now at d ≡ get_or before at d

pub sorted-start : (before : List ShownImport) → SortedTo before before 0
sorted-start before = record { counted = refl; sorted = λ at d none below. absurd (omega (arith, none)); left = λ at d any. refl }

pub sorted-more : (before now : List ShownImport) (count : ℕ) (e one : ShownImport) → SortedTo before now count → count < length now → HasNamesSorted (get_or now count e) one → SortedTo before (set now count one) (count + 1)
sorted-more before now count e one so_far within sorted_one = record {
  counted = length-set now count one ∙ so_far.counted;
  sorted = λ at d less below. elim (cases_eq at count) [
    | inl same ↦
        subst (λ (k : ℕ). HasNamesSorted (get_or before k d) (get_or (set now count one) k d)) (sym same)
        (subst (λ (s : ShownImport). HasNamesSorted s (get_or (set now count one) count d)) (get_or_default now count e d within ∙ so_far.left count d (omega arith))
        (subst (HasNamesSorted (get_or now count e)) (sym (get_or-set_same now count one d within)) sorted_one))
    | inr other ↦
        subst (HasNamesSorted (get_or before at d)) (sym (get_or-set_other now count at one d other))
        (so_far.sorted at d (omega (arith, less, other)) below)
  ];
  left = λ at d past.
      let other : at ≢ count = λ same. omega (arith, past, same) in
      get_or-set_other now count at one d other ∙ so_far.left at d (omega (arith, past));
}

-- ---- all lines were seen

pub shows-from : (recorded : List ℕ) (first seen last : ShownImport) (telling : Bool) → first.line < 2 ^ 64 → seen.line ≡ first.line → seen_of first false ≡ nothing_seen
    → seen_of seen telling ≡ seen_after first.line (seen_of first false) (lines_in recorded) → HasNamesSorted seen last → ShowsImport recorded last
shows-from recorded first seen last telling few line_is nothing seen_is sorted =
    let whole = seen_is ∙ ap (λ (s : Seen). seen_after first.line s (lines_in recorded)) nothing in
    let import_is : first.line ≡ last.line = sym (sorted.line ∙ line_is) in
    let told = lines_told first.line (lines_in recorded) in
    let names_are = ap (λ (s : Seen). s.unread) whole ∙ all-unread first.line few recorded in
    record {
      unlisted = sorted.unlisted ∙ ap (λ (s : Seen). s.unlisted) whole ∙ all-unlisted first.line few recorded ∙ ap (is_shown_unlisted recorded) import_is;
      ascending = sorted.ascending;
      unread = λ name. (
        λ has. ap (λ (import : ℕ). is_shown_unread recorded import name) (sym import_is) ∙ names-told first.line few told name (subst (λ (names : List (List ℕ)). Contains names name) names_are ((sorted.names name).0 has)),
        λ is. (sorted.names name).1 (subst (λ (names : List (List ℕ)). Contains names name) (sym names_are) (told-names first.line few told name (ap (λ (import : ℕ). is_shown_unread recorded import name) import_is ∙ is))),
      );
    }

pub lines-map : (before after : List ShownImport) → length after ≡ length before → ((at : ℕ) (d : ShownImport) → at < length before → (get_or after at d).line ≡ (get_or before at d).line) → map (λ (s : ShownImport). s.line) after ≡ map (λ (s : ShownImport). s.line) before
lines-map [] [] counted same = refl
lines-map [] (a ∷ others) counted same = absurd (omega (arith, counted))
lines-map (b ∷ bs) [] counted same = absurd (omega (arith, counted))
lines-map (b ∷ bs) (a ∷ others) counted same = λ i.
    same 0 b (omega arith) i
    ∷ lines-map bs others (omega (arith, counted)) (λ at d below. same (suc at) d (omega (arith, below))) i

-- ---- the imports among statements

one_more : (line : ℕ) (s : Statement) (ps : List Placed) → import_lines (record { line = line; statement = s } ∷ ps) ≡ import_lines (record { line = line; statement = s } ∷ []) ++ import_lines ps
one_more line (statement.Import path) ps = refl
one_more line other ps = refl

lines-cons : (p : Placed) (ps : List Placed) → import_lines (p ∷ ps) ≡ import_lines (p ∷ []) ++ import_lines ps
lines-cons p ps = one_more p.line p.statement ps

lines-append : (some more : List Placed) → import_lines (some ++ more) ≡ import_lines some ++ import_lines more
lines-append [] more = refl
lines-append (p ∷ ps) more =
    lines-cons p (ps ++ more)
    ∙ ap (λ (lines : List ℕ). import_lines (p ∷ []) ++ lines) (lines-append ps more)
    ∙ sym (append_assoc (import_lines (p ∷ [])) (import_lines ps) (import_lines more))
    ∙ ap (λ (lines : List ℕ). lines ++ import_lines more) (sym (lines-cons p ps))

none_here : (line : ℕ) (s : Statement) → ((path : List ℕ) → s ≢ statement.Import path) → import_lines (record { line = line; statement = s } ∷ []) ≡ []
none_here line (statement.Import path) other = absurd (other path refl)
none_here line plain other = refl

-- with one statement more
module _ (placed : List Placed) (count : ℕ) (p : Placed) (below : count < length placed) (p_is : p ≡ get_or placed count p) (shown after : List ShownImport) (lines : map (λ (s : ShownImport). s.line) shown ≡ import_lines (take count placed)) where
  more_lines : import_lines (take (count + 1) placed) ≡ import_lines (take count placed) ++ import_lines (p ∷ [])
  more_lines =
      ap import_lines (take_more placed count p below)
      ∙ lines-append (take count placed) (get_or placed count p ∷ [])
      ∙ ap (λ (q : Placed). import_lines (take count placed) ++ import_lines (q ∷ [])) (sym p_is)

  -- an import
  pub import-listed : (path : List ℕ) (one : ShownImport) → p.statement ≡ statement.Import path → one.line ≡ p.line → after ≡ shown ++ one ∷ [] → map (λ (s : ShownImport). s.line) after ≡ import_lines (take (count + 1) placed)
  import-listed path one is line_is after_is =
      ap (map (λ (s : ShownImport). s.line)) after_is
      ∙ map-append (λ (s : ShownImport). s.line) shown (one ∷ [])
      ∙ (λ i. lines i ++ line_is i ∷ [])
      ∙ ap (λ (l : List ℕ). import_lines (take count placed) ++ l) (sym (subst (λ (s : Statement). import_lines (record { line = p.line; statement = s } ∷ []) ≡ p.line ∷ []) (sym is) refl))
      ∙ sym more_lines

  -- any other statement
  pub none-listed : ((path : List ℕ) → p.statement ≢ statement.Import path) → after ≡ shown → map (λ (s : ShownImport). s.line) after ≡ import_lines (take (count + 1) placed)
  none-listed other after_is =
      ap (map (λ (s : ShownImport). s.line)) after_is
      ∙ lines
      ∙ sym (append-nil (import_lines (take count placed)))
      ∙ ap (λ (l : List ℕ). import_lines (take count placed) ++ l) (sym (none_here p.line p.statement other))
      ∙ sym more_lines

-- ---- all steps together: the imports at the start, with what was seen of them, and with sorted names
module _ (first seen last : List ShownImport) (counted : length seen ≡ length first) (same : (at : ℕ) (d : ShownImport) → at < length first → (get_or seen at d).line ≡ (get_or first at d).line)
    (counted_too : length last ≡ length seen) (sorted : (at : ℕ) (d : ShownImport) → at < length seen → HasNamesSorted (get_or seen at d) (get_or last at d)) where
  line_kept : (at : ℕ) (d : ShownImport) → at < length first → (get_or last at d).line ≡ (get_or first at d).line
  line_kept at d below = (sorted at d (omega (arith, below, counted))).line ∙ same at d below

  pub course-lines : (placed : List Placed) → map (λ (s : ShownImport). s.line) first ≡ import_lines placed → map (λ (s : ShownImport). s.line) last ≡ import_lines placed
  course-lines placed lines = lines-map first last (counted_too ∙ counted) line_kept ∙ lines

  pub course-shows : (recorded : List ℕ) → AreNumbered first → All (λ (s : ShownImport). seen_of s false ≡ nothing_seen) first
      → (AreAscending first → AreNumbered first → (at : ℕ) (d : ShownImport) → at < length first → (telling : Bool) × (seen_of (get_or seen at d) telling ≡ seen_after (get_or first at d).line (seen_of (get_or first at d) false) (lines_in recorded)))
      → AreAscending last → All (ShowsImport recorded) last
  course-shows recorded numbered nothing sees ascending at d below =
      let in_seen : at < length seen = omega (arith, below, counted_too) in
      let in_first : at < length first = omega (arith, in_seen, counted) in
      let back = ascending-same last first (sym (counted_too ∙ counted)) (λ k e inside. sym (line_kept k e (omega (arith, inside, counted_too, counted)))) ascending in
      let told = sees back numbered at d in_first in
      shows-from recorded (get_or first at d) (get_or seen at d) (get_or last at d) told.0 (numbered at d in_first) (same at d in_first) (nothing at d in_first) told.1 (sorted at d in_seen)

-- ---- what a list of some room has when other items of the same count stand in it
abbrev refilled : ℕ → List ShownImport → List ShownImport → List ShownImport
refilled count items now = take count (now ++ drop (length now) items)

refilled_is : (count : ℕ) (items now : List ShownImport) → length now ≡ count → refilled count items now ≡ now
refilled_is count items now long =
    take-append-le count now (drop (length now) items) (omega (arith, long))
    ∙ take_all count now (omega (arith, long))

module _ (count : ℕ) (first lent seen lent_too last : List ShownImport) (long : count ≡ length first) (lent_is : lent ≡ first) (counted : length seen ≡ length lent) (same : (at : ℕ) (d : ShownImport) → at < length lent → (get_or seen at d).line ≡ (get_or lent at d).line)
    (lent_too_is : lent_too ≡ refilled count first seen) (counted_too : length last ≡ length lent_too) (sorted : (at : ℕ) (d : ShownImport) → at < length lent_too → HasNamesSorted (get_or lent_too at d) (get_or last at d)) where
  seen_long : length seen ≡ count
  seen_long = counted ∙ ap length lent_is ∙ sym long

  between : lent_too ≡ seen
  between = lent_too_is ∙ refilled_is count first seen seen_long

  whole : refilled count (refilled count first seen) last ≡ last
  whole = refilled_is count (refilled count first seen) last (counted_too ∙ ap length between ∙ seen_long)

  pub whole-lines : (placed : List Placed) → map (λ (s : ShownImport). s.line) first ≡ import_lines placed → map (λ (s : ShownImport). s.line) (refilled count (refilled count first seen) last) ≡ import_lines placed
  whole-lines placed lines =
      ap (map (λ (s : ShownImport). s.line)) whole
      ∙ course-lines lent seen last counted same (counted_too ∙ ap length between)
      (λ at d below. subst (λ (l : List ShownImport). HasNamesSorted (get_or l at d) (get_or last at d)) between (sorted at d (omega (arith, below, ap length between))))
      placed (ap (map (λ (s : ShownImport). s.line)) lent_is ∙ lines)

  pub whole-shows : (recorded : List ℕ) → AreNumbered first → All (λ (s : ShownImport). seen_of s false ≡ nothing_seen) first
      → (AreAscending lent → AreNumbered lent → (at : ℕ) (d : ShownImport) → at < length lent → (telling : Bool) × (seen_of (get_or seen at d) telling ≡ seen_after (get_or lent at d).line (seen_of (get_or lent at d) false) (lines_in recorded)))
      → AreAscending (refilled count (refilled count first seen) last) → All (ShowsImport recorded) (refilled count (refilled count first seen) last)
  whole-shows recorded numbered nothing sees ascending =
      subst (All (ShowsImport recorded)) (sym whole)
      (course-shows lent seen last counted same (counted_too ∙ ap length between)
      (λ at d below. subst (λ (l : List ShownImport). HasNamesSorted (get_or l at d) (get_or last at d)) between (sorted at d (omega (arith, below, ap length between))))
      recorded (subst AreNumbered (sym lent_is) numbered) (subst (All (λ (s : ShownImport). seen_of s false ≡ nothing_seen)) (sym lent_is) nothing) sees
      (subst AreAscending whole ascending))
