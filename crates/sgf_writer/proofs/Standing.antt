-- Where a text stands in a whole text.
use Rattle.std.proofs.Common.{◌≡◌, ℕ, ◌+◌, ◌-◌, List, [], ◌++◌, length, take, drop, refl, sym, ◌∙◌, ap, subst, arith, append_assoc, length-append}
use Rattle.std.proofs.lemmas.List.{append-nil, drop_at, take_at}
use Rattle.std.specs.List.{slice_range}

-- the text stands in the whole text at this offset
pub record Stands (whole : List ℕ) (at : ℕ) (text : List ℕ) : Type 0 where
  pub before : List ℕ
  pub after : List ℕ
  pub split : whole ≡ before ++ (text ++ after)
  pub place : length before ≡ at

pub Stands-whole : (whole : List ℕ) → Stands whole 0 whole
Stands-whole whole = record { before = []; after = []; split = sym (append-nil whole); place = refl }

pub Stands-front : {whole : List ℕ} {at : ℕ} (a b : List ℕ) → Stands whole at (a ++ b) → Stands whole at a
Stands-front a b s = record { before = s.before; after = b ++ s.after; split = s.split ∙ ap (λ t. s.before ++ t) (append_assoc a b s.after); place = s.place }

pub Stands-back : {whole : List ℕ} {at : ℕ} (a b : List ℕ) → Stands whole at (a ++ b) → Stands whole (at + length a) b
Stands-back a b s = record {
  before = s.before ++ a;
  after = s.after;
  split = s.split ∙ ap (λ t. s.before ++ t) (append_assoc a b s.after) ∙ sym (append_assoc s.before a (b ++ s.after));
  place = length-append s.before a ∙ ap (λ n. n + length a) s.place;
}

pub Stands-as : {whole : List ℕ} {at : ℕ} (a b : List ℕ) → a ≡ b → Stands whole at a → Stands whole at b
Stands-as {whole} {at} a b e s = subst (λ (t : List ℕ). Stands whole at t) e s

pub Stands-at : {whole text : List ℕ} (at k : ℕ) → at ≡ k → Stands whole at text → Stands whole k text
Stands-at {whole} {text} at k e s = subst (λ (n : ℕ). Stands whole n text) e s

-- the bytes of a span
pub Stands-bytes : {whole : List ℕ} (from to : ℕ) (text : List ℕ) → Stands whole from text → to ≡ from + length text → slice_range whole from to ≡ text
Stands-bytes from to text s e =
    ap (λ xs. take (to - from) (drop from xs)) s.split ∙ ap (take (to - from)) (drop_at s.before (text ++ s.after) from s.place) ∙ take_at text s.after (to - from) (omega arith)
