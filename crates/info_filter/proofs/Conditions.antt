-- What conditions ask, as the code finds it out.
use Rattle.std.proofs.Common.{◌≡◌, ◌↔◌, ◌∙◌, ◌+◌, ◌++◌, ◌<◌, ◌≤◌, ℕ, zero, suc, ℤ, List, [], ◌∷◌, length, take, drop, slice_index, Bool, Option, Some, None, IsTrue, refl, sym, ap, subst, arith}
use Rattle.std.specs.Prelude.{IsSomeAnd}
use Rattle.std.proofs.lemmas.List.{get_or-append-add, get_or-drop, get_or_append_left, length-append, take-append-drop}
use Rattle.memchr.specs.Find.{OccursAt}
use Rattle.info_filter.specs.Day.{HasDay, IsDayOf}
use Rattle.info_filter.specs.Filter.{HasBytes}
use Rattle.info_filter.proofs.Calendars.{day_once}

-- ---- bytes in a text

-- bytes that are read at the beginning of a text stand there
leads : (text bytes : List ℕ) → length bytes ≤ length text → ((j : ℕ) → j < length bytes → slice_index text j ≡ slice_index bytes j) → (after : List ℕ) × (text ≡ bytes ++ after)
leads text [] fits reads = (text, refl)
leads [] (b ∷ bytes) fits reads = absurd (omega (arith, fits))
leads (t ∷ text) (b ∷ bytes) fits reads =
    let head : t ≡ b = reads 0 (omega arith) in
    let (after, is) = leads text bytes (omega (arith, fits)) (λ j lt. reads (suc j) (omega (arith, lt))) in
    (after, (λ i. head i ∷ is i))

pub found_bytes : (text bytes : List ℕ) → (k : ℕ) × OccursAt text bytes k → HasBytes text bytes
found_bytes text bytes (k, occurs) =
    let (after, is) = leads (drop k text) bytes (fits_behind text (length bytes) k occurs.fits) (λ j lt. get_or-drop k text j 0 ∙ occurs.reads j lt) in
    (take k text, after, sym (take-append-drop k text) ∙ ap (λ xs. take k text ++ xs) is)
  where
    fits_behind : (text : List ℕ) (many k : ℕ) → k + many ≤ length text → many ≤ length (drop k text)
    fits_behind text many zero fits = omega (arith, fits)
    fits_behind [] many (suc k) fits = omega (arith, fits)
    fits_behind (t ∷ text) many (suc k) fits = fits_behind text many k (omega (arith, fits))

pub bytes_found : (text bytes : List ℕ) → HasBytes text bytes → (k : ℕ) × OccursAt text bytes k
bytes_found text bytes (before, after, is) = (length before, subst (λ xs. OccursAt xs bytes (length before)) (sym is) (there before bytes after))
  where
    there : (before bytes after : List ℕ) → OccursAt (before ++ (bytes ++ after)) bytes (length before)
    there before bytes after = record {
      fits = let whole = length-append before (bytes ++ after) in let part = length-append bytes after in omega (arith, whole, part);
      reads = λ j lt. get_or-append-add before (bytes ++ after) j 0 ∙ get_or_append_left bytes after 0 j lt;
    }

-- ---- days

-- a test of the day, where there is one, is a test of the day that the text has
pub day_passes : (text : List ℕ) (day : Option ℤ) (P : ℤ → Type 0) → IsDayOf text day → (passed : Bool) → IsTrue passed ↔ IsSomeAnd day P → IsTrue passed ↔ ((number : ℤ) × HasDay text number × P number)
day_passes text (Some number) P has passed test = (
  λ yes. (number, has, test.0 yes),
  λ (other, other_has, passes). test.1 (subst P (day_once text other number other_has has) passes),
)
day_passes text None P none passed test = (
  λ yes. absurd (test.0 yes),
  λ (other, other_has, passes). absurd (none other other_has),
)
