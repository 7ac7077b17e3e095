-- What is left of a record departs from a text that is to stand next.
use Rattle.std.proofs.Common.{◌≡◌, ◌≢◌, ◌∙◌, inl, inr, ℕ, suc, zero, ◌+◌, ◌-◌, ◌<◌, ◌≤◌, false, List, [], ◌∷◌, ◌++◌, Some, None, drop, get_or, length, length-append, take, refl, sym, ap, ap₂, subst, arith}
use Rattle.std.specs.Prelude.{IfOk, IsErrAnd, Result, Ok, Err, slice_get}
use Rattle.std.specs.Char.{is_ascii_digit}
use Rattle.std.proofs.Math.Seq.{drop-append_seam, take-add, take-append_seam}
use Rattle.std.proofs.lemmas.List.{take-append-drop, take-append-le, take_all, take_rest}
use Rattle.std.proofs.lemmas.Option.{slice_get_cases}
use Rattle.run_audit.specs.Chosen.{BeginsWithoutDigit}
use Rattle.run_audit.specs.Standing.{DepartsIn, DepartsInNumber}
use Rattle.run_audit.specs.Verdict.{PartAt}
use Rattle.run_audit.specs.declared.stop.Stop.{Stop}
use Rattle.run_audit.specs.declared.stop.Stop.TheVariants as stop

-- an error that is handed on is the same one
pub same_error : {A B E : Type 0} (q : Result A E) (r : Result B E) (e f : E) → IsErrAnd r (λ x. x ≡ e) → q ≡ Err e → r ≡ Err f → q ≡ Err f
same_error q (Ok x) e f h was is = absurd h
same_error q (Err x) e f h was is = cc

-- what holds of a value, and what also holds of it
pub both-ok : {T E : Type 0} (r : Result T E) (P Q : T → Type 0) → IfOk r P → IfOk r Q → IfOk r (λ x. P x × Q x)
both-ok (Ok x) P Q one other = (one, other)
both-ok (Err e) P Q one other = tt

-- the count of a departure that is handed on
pub same-count : {T : Type 0} (n count : ℕ) → ◌≡◌ {A = Result T Stop} (Err (stop.Departs n)) (Err (stop.Departs count)) → n ≡ count
same-count {T} n count is = cc

-- the place of a departure is the one that is told
pub departs-told : {T : Type 0} {left text : List ℕ} (n count : ℕ) → ◌≡◌ {A = Result T Stop} (Err (stop.Departs n)) (Err (stop.Departs count)) → DepartsIn left text n → DepartsIn left text count
departs-told {T} {left} {text} n count is departs = let same : n ≡ count = cc in subst (DepartsIn left text) same departs

-- a text stands next where as many bytes as it has are the same
pub stands-next : (left text : List ℕ) (same : ℕ) → same ≡ length text → take same left ≡ take same text → left ≡ text ++ take (length left - same) (drop same left)
stands-next left text same whole is =
    sym (take-append-drop same left)
    ∙ (λ i. (is ∙ take_all same text (omega (arith, whole))) i ++ sym (take_rest left same) i)

-- ---- where they part

-- so many bytes are the same, and then they are other ones
pub parts-at : (left text : List ℕ) (same : ℕ) → same ≤ length left → same < length text → take same left ≡ take same text
    → (same < length left → same < length text → (d : ℕ) → get_or left same d ≢ get_or text same d) → PartAt left text same
parts-at left text same within short is apart = record {
  same = is;
  apart = λ e. elim (slice_get_cases left same).1 [
    | inl (x, there, found, at_x) ↦ elim (slice_get_cases text same).1 [
      | inl (y, also, too, at_y) ↦
          let both : Some x ≡ Some y = sym found ∙ e ∙ too in
          let one : x ≡ y = cc in
          apart there short x (at_x ∙ one ∙ sym (ap (get_or text same) one ∙ at_y))
      | inr (past, none) ↦ absurd (omega (arith, past, short))
    ]
    | inr (past, none) ↦ elim (slice_get_cases text same).1 [
      | inl (y, also, too, at_y) ↦ let both : None ≡ Some y = sym none ∙ e ∙ too in absurd cc
      | inr (beyond, nothing) ↦ absurd (omega (arith, beyond, short))
    ]
  ];
}

pub departs-at : (left text : List ℕ) (same : ℕ) → same ≤ length left → same < length text → take same left ≡ take same text
    → (same < length left → same < length text → (d : ℕ) → get_or left same d ≢ get_or text same d) → DepartsIn left text (length left - same)
departs-at left text same within short is apart =
    let place : length left - (length left - same) ≡ same = omega (arith, within) in record {
      within = omega arith;
      within_text = omega (arith, within, short);
      part = subst (PartAt left text) (sym place) (parts-at left text same within short is apart);
    }

-- ---- texts that begin with the one that isn't there, or stand behind one that is

slice-front : (xs ys : List ℕ) (i : ℕ) → i < length xs → slice_get (xs ++ ys) i ≡ slice_get xs i
slice-front [] ys i below = absurd (omega arith)
slice-front (x ∷ xs) ys zero below = refl
slice-front (x ∷ xs) ys (suc i) below = slice-front xs ys i (omega arith)

slice-behind : (xs ys : List ℕ) (i : ℕ) → slice_get (xs ++ ys) (length xs + i) ≡ slice_get ys i
slice-behind [] ys i = ap (slice_get ys) (omega arith)
slice-behind (x ∷ xs) ys i = let next : length (x ∷ xs) + i ≡ suc (length xs + i) = omega arith in ap (slice_get (x ∷ (xs ++ ys))) next ∙ slice-behind xs ys i

pub departs-longer : (left text more : List ℕ) (count : ℕ) → DepartsIn left text count → DepartsIn left (text ++ more) count
departs-longer left text more count h =
    let place : ℕ = length left - count in record {
      within = h.within;
      within_text = omega (arith, h.within_text, length-append text more);
      part = record {
        same = h.part.same ∙ sym (take-append-le place text more (omega (arith, h.within_text)));
        apart = λ e. h.part.apart (e ∙ slice-front text more place (omega (arith, h.within_text)));
      };
    }

take-behind : (xs ys : List ℕ) (n : ℕ) → take (length xs + n) (xs ++ ys) ≡ xs ++ take n ys
take-behind xs ys n = take-add (length xs) n (xs ++ ys) ∙ ap₂ (λ front rest. front ++ take n rest) (take-append_seam xs ys) (drop-append_seam xs ys)

pub departs-behind : (left text rest more : List ℕ) (count : ℕ) → left ≡ text ++ rest → DepartsIn rest more count → DepartsIn left (text ++ more) count
departs-behind left text rest more count is h =
    let counted : length left ≡ length text + length rest = ap length is ∙ length-append text rest in
    let behind : ℕ = length rest - count in
    let place : length left - count ≡ length text + behind = omega (arith, counted, h.within) in record {
      within = omega (arith, counted, h.within);
      within_text = omega (arith, place, h.within_text, length-append text more);
      part = record {
        same =
            ap₂ (λ n l. take n l) place is
            ∙ take-behind text rest behind
            ∙ ap (λ l. text ++ l) h.part.same
            ∙ sym (take-behind text more behind)
            ∙ ap (λ n. take n (text ++ more)) (sym place);
        apart = λ e. h.part.apart (sym (slice-behind text rest behind) ∙ sym (ap₂ (λ n l. slice_get l n) place is) ∙ e ∙ ap (slice_get (text ++ more)) place ∙ slice-behind text more behind);
      };
    }

-- digits stand next, but not the byte behind them
first-apart : (rest others : List ℕ) (byte : ℕ) → ¬ BeginsWithoutDigit rest → is_ascii_digit byte ≡ false → slice_get rest 0 ≢ slice_get (byte ∷ others) 0
first-apart [] others byte not ended e = let both : None ≡ Some byte = e in absurd cc
first-apart (b ∷ bs) others byte not ended e =
    let both : Some b ≡ Some byte = e in
    let same : b ≡ byte = cc in
    not (ap is_ascii_digit same ∙ ended)

pub departs-number : (left digits rest others : List ℕ) (byte : ℕ) → left ≡ digits ++ rest → ¬ BeginsWithoutDigit rest → is_ascii_digit byte ≡ false → DepartsIn left (digits ++ byte ∷ others) (length rest)
departs-number left digits rest others byte is not ended =
    let none : length rest - length rest ≡ 0 = omega arith in
    departs-behind left digits rest (byte ∷ others) (length rest) is
    (record {
      within = omega arith;
      within_text = omega arith;
      part = subst (PartAt rest (byte ∷ others)) (sym none) (record { same = refl; apart = first-apart rest others byte not ended });
    })

-- the place of a departure from a number is one of what is left
pub number-departs-within : (left : List ℕ) (number count : ℕ) → DepartsInNumber left number count → count ≤ length left
number-departs-within left number count departs = (departs 10 [] refl).within
