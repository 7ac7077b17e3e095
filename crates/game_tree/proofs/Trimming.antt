-- A value without the white space at either end is one text only.
use Rattle.std.proofs.Common.{◌≡◌, ◌≤◌, ◌<◌, ◌++◌, ◌∙◌, ℕ, zero, suc, List, [], ◌∷◌, All, refl, sym, ap, arith, append_assoc, if◌then◌else◌, false, reverse, inl, inr}
use Rattle.std.proofs.Math.Dec.{leb}
use Rattle.std.proofs.lemmas.List.{append-nil, reverse-append, reverse-reverse}
use Rattle.std.proofs.lemmas.List.Elements.{All-append}
use Rattle.std.proofs.lemmas.Bool.{le-leb}
use Rattle.std.proofs.lemmas.Bool.Decides.{leb_tells}
use Rattle.game_tree.specs.Property.{IsTrimmed}

abbrev IsWhite : List ℕ → Type 0
IsWhite text = All (λ (b : ℕ). b ≤ 32) text

-- the text without the white space before it
abbrev without_white : List ℕ → List ℕ
without_white [] = []
without_white (b ∷ text) = if leb b 32 then without_white text else b ∷ text

white_tail : (b : ℕ) (text : List ℕ) → IsWhite (b ∷ text) → IsWhite text
white_tail b text white k d inside = white (suc k) d (omega arith)

white_one : (b : ℕ) → b ≤ 32 → IsWhite (b ∷ [])
white_one b white zero d inside = white
white_one b white (suc k) d inside = absurd (omega arith)

without_white-append : (before text : List ℕ) → IsWhite before → without_white (before ++ text) ≡ without_white text
without_white-append [] text white = refl
without_white-append (b ∷ before) text white = rw (le-leb b 32 (white 0 0 (omega arith))) (without_white-append before text (white_tail b before white))

without_white-none : (b : ℕ) (text : List ℕ) → 32 < b → without_white (b ∷ text) ≡ b ∷ text
without_white-none b text dark = rw (dark_false b dark) refl
  where
    dark_false : (b : ℕ) → 32 < b → leb b 32 ≡ false
    dark_false b dark = elim (leb_tells b 32) [ inl (t, le) ↦ absurd (omega (arith, le)) | inr (f, lt) ↦ f ]

reverse-cons : (b : ℕ) (text : List ℕ) → reverse (b ∷ text) ≡ reverse text ++ b ∷ []
reverse-cons b text = reverse-append (b ∷ []) text

white-reverse : (text : List ℕ) → IsWhite text → IsWhite (reverse text)
white-reverse [] white = white
white-reverse (b ∷ text) white = rw (reverse-cons b text) (All-append (λ (b : ℕ). b ≤ 32) (reverse text) (b ∷ []) (white-reverse text (white_tail b text white)) (white_one b (white 0 0 (omega arith))))

-- the text without the white space at either end
abbrev without_ends : List ℕ → List ℕ
without_ends value = reverse (without_white (reverse (without_white value)))

-- the last byte of a text that ends with none of the white ones stays
ends_dark : (inner : List ℕ) → ((b : ℕ) (rest : List ℕ) → inner ≡ rest ++ b ∷ [] → 32 < b) → without_white (reverse inner) ≡ reverse inner
ends_dark inner last = go (reverse inner) refl
  where
    go : (turned : List ℕ) → reverse inner ≡ turned → without_white turned ≡ turned
    go [] e = refl
    go (y ∷ ys) e = without_white-none y ys (last y (reverse ys) (sym (reverse-reverse inner) ∙ ap reverse e ∙ reverse-cons y ys))

trimmed_is : (value inner : List ℕ) → IsTrimmed value inner → inner ≡ without_ends value
trimmed_is value [] t =
    let split : value ≡ t.before ++ t.after = t.split ∙ ap (λ front. front ++ t.after) (append-nil t.before) in
    let gone : without_white value ≡ [] = ap without_white split ∙ without_white-append t.before t.after t.white_before ∙ all_gone t.after t.white_after in
    sym (ap (λ rest. reverse (without_white (reverse rest))) gone)
  where
    all_gone : (text : List ℕ) → IsWhite text → without_white text ≡ []
    all_gone text white = sym (ap without_white (append-nil text)) ∙ without_white-append text [] white
trimmed_is value (x ∷ xs) t =
    let inner = x ∷ xs in
    let split : value ≡ t.before ++ (inner ++ t.after) = t.split ∙ append_assoc t.before inner t.after in
    let front : without_white value ≡ inner ++ t.after = ap without_white split ∙ without_white-append t.before (inner ++ t.after) t.white_before ∙ without_white-none x (xs ++ t.after) (t.first x xs refl) in
    let turned : reverse (without_white value) ≡ reverse t.after ++ reverse inner = ap reverse front ∙ reverse-append inner t.after in
    let back : without_white (reverse (without_white value)) ≡ reverse inner = ap without_white turned ∙ without_white-append (reverse t.after) (reverse inner) (white-reverse t.after t.white_after) ∙ ends_dark inner t.last in
    sym (ap reverse back ∙ reverse-reverse inner)

pub IsTrimmed-only : (value one other : List ℕ) → IsTrimmed value one → IsTrimmed value other → one ≡ other
IsTrimmed-only value one other a b = trimmed_is value one a ∙ sym (trimmed_is value other b)
