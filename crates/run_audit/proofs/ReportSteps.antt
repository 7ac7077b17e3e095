-- What one line of the record tells of each import, by what it begins with.
use Rattle.std.proofs.Common.{◌≡◌, ◌≢◌, ◌∙◌, inl, inr, ℕ, ◌^◌, ◌<◌, Bool, true, false, not, List, [], ◌++◌, Option, Some, None, append-nil, append_assoc, codes, drop, get_or, length, set, take, refl, sym, ap, subst, arith, true≢false}
use Rattle.std.specs.Prelude.{if◌then◌else◌, nat_eq, ◌==◌, ◌&&◌, ◌||◌}
use Rattle.std.specs.Fmt.{decimal}
use Rattle.std.specs.List.{starts_with}
use Rattle.std.specs.Str.{bytes_eq}
use Rattle.std.proofs.lemmas.Bool.{cases_eq, eq-eqb, ne_eqb}
use Rattle.std.proofs.lemmas.List.{get_or_default, take_all, take-append-le}
use Rattle.run_audit.specs.Courses.{AreAscending, AreNumbered, IsNoneAt, Seen, SeesLine, is_place, name_told, seen_of, seen_with, tells_files, unread_in}
use Rattle.run_audit.specs.Shown.{begins_with_digit, files_head, unlisted_line}
use Rattle.run_audit.specs.Standing.{BeginsNoNumber}
use Rattle.run_audit.specs.declared.course.ShownImport.{ShownImport}
use Rattle.run_audit.proofs.CourseSteps.{begins-split, both-or, text-same}
use Rattle.run_audit.proofs.SeenLines.{digit-with, digit_seen, none-passed, other-line, other-passed, plain-with, sees-none, sees-one, tells_is, unlisted_is}

-- no number stands there
pub report-none : (line : List ℕ) (shown : List ShownImport) (telling : Option ℕ) → AreNumbered shown → begins_with_digit line ≡ true → ((number : ℕ) (rest : List ℕ) → number < 2 ^ 64 → BeginsNoNumber rest → line ≢ decimal number ++ rest) → SeesLine line shown shown telling None
report-none line shown telling numbered digit none =
    sees-none line shown telling (λ at d below. none-passed (get_or shown at d).line line (seen_of (get_or shown at d) (is_place telling at)) (numbered at d below) digit none)

-- a number at which no import stands
pub report-other : (line told : List ℕ) (number : ℕ) (shown : List ShownImport) (telling : Option ℕ) → AreNumbered shown → begins_with_digit line ≡ true → line ≡ decimal number ++ told → BeginsNoNumber told → number < 2 ^ 64 → IsNoneAt number shown → SeesLine line shown shown telling None
report-other line told number shown telling numbered digit is ended few none =
    sees-none line shown telling (λ at d below. other-passed number (get_or shown at d).line line told (seen_of (get_or shown at d) (is_place telling at)) few (numbered at d below) is ended digit (λ same. none at d below (sym same)))

begins-with : (needle rest : List ℕ) → starts_with nat_eq (needle ++ rest) needle ≡ true
begins-with needle rest = text-same needle (take (length needle) (needle ++ rest)) (sym (take-append-le (length needle) needle rest (omega arith) ∙ take_all (length needle) needle (omega arith)))

abbrev files_told : List ℕ
files_told = codes " imported files "

abbrev unlisted_told : List ℕ
unlisted_told = codes " imported unlisted"

or-true : (a : Bool) → a || true ≡ true
or-true true = refl
or-true false = refl

or-false : (a : Bool) → a || false ≡ a
or-false true = refl
or-false false = refl

and-false : (a : Bool) → a && false ≡ false
and-false true = refl
and-false false = refl

-- the number is the line of an import
module _ (line told : List ℕ) (number : ℕ) (few : number < 2 ^ 64) (is : line ≡ decimal number ++ told) (ended : BeginsNoNumber told) where
  here-tells : starts_with nat_eq told files_told ≡ true → tells_files number line ≡ true
  here-tells begins =
      let rest : List ℕ = drop (length files_told) told in
      ap (tells_files number) (is ∙ ap (λ (l : List ℕ). decimal number ++ l) (begins-split told files_told begins) ∙ sym (append_assoc (decimal number) files_told rest))
      ∙ begins-with (files_head number) rest

  here-tells_not : starts_with nat_eq told files_told ≡ false → tells_files number line ≡ false
  here-tells_not not_it = elim (both-or (tells_files number line)) [
    | inl tells ↦
        let whole = (tells_is number number line told few few is ended tells).1 in
        absurd (true≢false (sym (ap (λ (l : List ℕ). starts_with nat_eq l files_told) whole ∙ begins-with files_told (drop (length (files_head number)) line)) ∙ not_it))
    | inr none ↦ none
  ]

  here-unlisted : told ≡ unlisted_told → bytes_eq line (unlisted_line number) ≡ true
  here-unlisted same = text-same line (unlisted_line number) (is ∙ ap (λ (l : List ℕ). decimal number ++ l) same)

  here-listed : told ≢ unlisted_told → bytes_eq line (unlisted_line number) ≡ false
  here-listed other = elim (both-or (bytes_eq line (unlisted_line number))) [
    | inl same ↦ absurd (other (unlisted_is number number line told few few is ended same).1)
    | inr none ↦ none
  ]

  module _ (place : ℕ) (shown : List ShownImport) (e : ShownImport) (telling : Option ℕ) (ascending : AreAscending shown) (numbered : AreNumbered shown) (digit : begins_with_digit line ≡ true) (within : place < length shown) (there : (d : ShownImport) → (get_or shown place d).line ≡ number) where
    abbrev found : ShownImport
    found = get_or shown place e

    found_at : (d : ShownImport) → get_or shown place d ≡ found
    found_at d = get_or_default shown place d e within

    others : (at : ℕ) (d : ShownImport) → at < length shown → at ≢ place → seen_with (get_or shown at d).line (seen_of (get_or shown at d) (is_place telling at)) line ≡ seen_of (get_or shown at d) false
    others at d below other =
        other-passed number (get_or shown at d).line line told (seen_of (get_or shown at d) (is_place telling at)) few (numbered at d below) is ended digit
        (λ same. other-line shown place at d ascending within below other (there d ∙ same))

    -- what is seen of the one at the place
    seen_here : (d : ShownImport) (unlisted tells : Bool) → bytes_eq line (unlisted_line number) ≡ unlisted → tells_files number line ≡ tells → seen_with (get_or shown place d).line (seen_of (get_or shown place d) (is_place telling place)) line ≡ digit_seen (seen_of found (is_place telling place)) unlisted tells
    seen_here d unlisted tells unlisted_so tells_so =
        (λ i. seen_with (there d i) (seen_of (found_at d i) (is_place telling place)) line)
        ∙ digit-with number (seen_of found (is_place telling place)) line unlisted tells digit unlisted_so tells_so

    pub report-unlisted : told ≡ unlisted_told → SeesLine line shown (set shown place (record found { unlisted = true })) telling None
    report-unlisted same =
        sees-one line shown place (record found { unlisted = true }) telling None within
        (λ d. ap (λ (s : ShownImport). s.line) (sym (found_at d)))
        (λ d. sym (seen_here d true false (here-unlisted same) (here-tells_not (ap (λ (l : List ℕ). starts_with nat_eq l files_told) same))
        ∙ (λ i. record { unlisted = or-true found.unlisted i; told = or-false found.told i; telling = and-false (not found.told) i; unread = unread_in found })))
        others

    pub report-files : told ≢ unlisted_told → (x : ShownImport) → (get_or shown place x).told ≡ false → starts_with nat_eq told files_told ≡ true → SeesLine line shown (set shown place (record found { told = true })) telling (Some place)
    report-files other x x_untold begins =
        let untold : found.told ≡ false = ap (λ (s : ShownImport). s.told) (sym (found_at x)) ∙ x_untold in
        sees-one line shown place (record found { told = true }) telling (Some place) within
        (λ d. ap (λ (s : ShownImport). s.line) (sym (found_at d)))
        (λ d. sym (seen_here d false true (here-listed other) (here-tells begins)
        ∙ (λ i. record { unlisted = or-false found.unlisted i; told = or-true found.told i; telling = (ap (λ (b : Bool). not b && true) untold ∙ sym (eq-eqb place place refl)) i; unread = unread_in found })))
        (λ at d below apart. others at d below apart ∙ ap (seen_of (get_or shown at d)) (sym (ne_eqb place at (λ e. apart (sym e)))))

    -- nothing is told anew
    passes : (tells : Bool) → told ≢ unlisted_told → tells_files number line ≡ tells → (found.told || tells ≡ found.told) → (not found.told && tells ≡ false) → SeesLine line shown shown telling None
    passes tells other so told_same telling_not = sees-none line shown telling (λ at d below. elim (cases_eq at place) [
      | inl same ↦
          subst (λ (k : ℕ). seen_with (get_or shown k d).line (seen_of (get_or shown k d) (is_place telling k)) line ≡ seen_of (get_or shown k d) false) (sym same)
          (seen_here d false tells (here-listed other) so
          ∙ (λ i. record { unlisted = or-false found.unlisted i; told = told_same i; telling = telling_not i; unread = unread_in found })
          ∙ ap (λ (s : ShownImport). seen_of s false) (sym (found_at d)))
      | inr apart ↦ others at d below apart
    ])

    pub report-told : told ≢ unlisted_told → (x : ShownImport) → (get_or shown place x).told ≡ true → SeesLine line shown shown telling None
    report-told other x x_told =
        let already : found.told ≡ true = ap (λ (s : ShownImport). s.told) (sym (found_at x)) ∙ x_told in
        passes (tells_files number line) other refl
        (ap (λ (b : Bool). b || tells_files number line) already ∙ sym already)
        (ap (λ (b : Bool). not b && tells_files number line) already)

    pub report-plain : told ≢ unlisted_told → starts_with nat_eq told files_told ≡ false → SeesLine line shown shown telling None
    report-plain other not_it = passes false other (here-tells_not not_it) (or-false found.told) (and-false (not found.told))

-- ---- a line that begins with no digit

if_false : (b : Bool) (names : List (List ℕ)) → b ≡ false → (if b then names else []) ≡ []
if_false b names none = ap (λ (t : Bool). if t then names else []) none

plain-still : (import : ℕ) (seen : Seen) (line : List ℕ) → begins_with_digit line ≡ false → seen.telling ≡ false → seen_with import seen line ≡ seen
plain-still import seen line none off =
    plain-with import seen line none
    ∙ ap (λ (names : List (List ℕ)). record seen { unread = seen.unread ++ names }) (if_false seen.telling (name_told line) off)
    ∙ ap (λ (unread : List (List ℕ)). record seen { unread = unread }) (append-nil seen.unread)

-- those of the import at the place are
pub plain-one : (line : List ℕ) (shown : List ShownImport) (place : ℕ) (e one : ShownImport) (telling : Option ℕ) → telling ≡ Some place → begins_with_digit line ≡ false → place < length shown → one.line ≡ (get_or shown place e).line
    → ((on : Bool) → seen_of one on ≡ record (seen_of (get_or shown place e) on) { unread = unread_in (get_or shown place e) ++ name_told line }) → SeesLine line shown (set shown place one) telling (Some place)
plain-one line shown place e one telling some none within line_is seen_is =
    subst (λ (t : Option ℕ). SeesLine line shown (set shown place one) t (Some place)) (sym some)
    (sees-one line shown place one (Some place) (Some place) within
    (λ d. line_is ∙ ap (λ (s : ShownImport). s.line) (sym (found_at d)))
    (λ d. seen_is (place == place)
    ∙ ap (λ (b : Bool). record (seen_of found (place == place)) { unread = unread_in found ++ (if b then name_told line else []) }) (sym (eq-eqb place place refl))
    ∙ sym (plain-with found.line (seen_of found (place == place)) line none)
    ∙ ap (λ (s : ShownImport). seen_with s.line (seen_of s (place == place)) line) (sym (found_at d)))
    (λ at d below apart. plain-still (get_or shown at d).line (seen_of (get_or shown at d) (place == at)) line none (ne_eqb place at (λ same. apart (sym same)))))
  where
    found : ShownImport
    found = get_or shown place e

    found_at : (d : ShownImport) → get_or shown place d ≡ found
    found_at d = get_or_default shown place d e within
