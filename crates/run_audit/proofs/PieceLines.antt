-- Printed lines by their pieces.
use Rattle.std.proofs.Common.{◌≡◌, ◌∙◌, ℕ, ◌^◌, ◌<◌, true, false, List, [], ◌∷◌, ◌++◌, refl, sym, ap, append_assoc}
use Rattle.std.specs.Fmt.{decimal}
use Rattle.std.specs.List.{concat, flat_map}
use Rattle.query_script.specs.Texts.{line_text}
use Rattle.run_audit.specs.Chosen.{BeginsWithoutDigit}
use Rattle.run_audit.specs.Shown.{begins_with_digit}
use Rattle.run_audit.proofs.LineLists.{AreLines, IsTail, begins, one_line, one_line-append, one_line-concat, tail-line, tail-none, tail-same}
use Rattle.run_audit.proofs.OtherLines.{HasNoReport, elsewhere-no_report, imported, plain-no_report, no_report-same}

-- a line is its pieces and a line feed
pub line_text-is : (pieces : List (List ℕ)) → line_text pieces ≡ concat pieces ++ 10 ∷ []
line_text-is [] = refl
line_text-is (piece ∷ pieces) = ap (λ t. piece ++ t) (line_text-is pieces) ∙ sym (append_assoc piece (concat pieces) (10 ∷ []))

-- more stands behind a line
line_text-then : (pieces : List (List ℕ)) (more : List ℕ) → line_text pieces ++ more ≡ concat pieces ++ 10 ∷ more
line_text-then pieces more = ap (λ t. t ++ more) (line_text-is pieces) ∙ append_assoc (concat pieces) (10 ∷ []) more

-- numbers behind spaces
pub spaced-lines : (f : ℕ → List ℕ) → ((n : ℕ) → one_line (f n) ≡ true) → (numbers : List ℕ) → one_line (flat_map f numbers) ≡ true
spaced-lines f each [] = refl
spaced-lines f each (n ∷ numbers) = one_line-append (f n) (flat_map f numbers) (each n) (spaced-lines f each numbers)

-- ---- lines that begin without a digit

pub tail-text : (pieces : List (List ℕ)) → AreLines pieces → begins_with_digit (concat pieces) ≡ false → IsTail (line_text pieces)
tail-text pieces are low =
    tail-same (line_text pieces) (concat pieces ++ 10 ∷ []) (line_text-is pieces) (tail-line (concat pieces) (record { one = one_line-concat pieces are; low = low }))

-- the same behind other pieces
pub tail-behind : (front : List ℕ) (pieces : List (List ℕ)) → one_line front ≡ true → AreLines pieces → begins_with_digit (front ++ concat pieces) ≡ false → IsTail (front ++ line_text pieces)
tail-behind front pieces one are low =
    tail-same (front ++ line_text pieces) ((front ++ concat pieces) ++ 10 ∷ [])
    (ap (λ t. front ++ t) (line_text-is pieces) ∙ sym (append_assoc front (concat pieces) (10 ∷ [])))
    (tail-line (front ++ concat pieces) (record { one = one_line-append front (concat pieces) one (one_line-concat pieces are); low = low }))

-- ---- texts of statements

module _ (line : ℕ) (few : line < 2 ^ 64) where
  -- a statement's line, and what stands behind it
  pub plain-text : (at : ℕ) (pieces : List (List ℕ)) (tail : List ℕ) → at < 2 ^ 64 → AreLines pieces → BeginsWithoutDigit (concat pieces) → begins imported (concat pieces) ≡ false → IsTail tail →
      HasNoReport line few (line_text (decimal at ∷ pieces) ++ tail)
  plain-text at pieces tail at_few are ended apart is =
      no_report-same line few (line_text (decimal at ∷ pieces) ++ tail) ((decimal at ++ concat pieces) ++ 10 ∷ tail) (line_text-then (decimal at ∷ pieces) tail)
      (plain-no_report line few at pieces tail at_few are ended apart is)

  -- a line alone
  pub plain-line : (at : ℕ) (pieces : List (List ℕ)) → at < 2 ^ 64 → AreLines pieces → BeginsWithoutDigit (concat pieces) → begins imported (concat pieces) ≡ false → HasNoReport line few (line_text (decimal at ∷ pieces))
  plain-line at pieces at_few are ended apart =
      no_report-same line few (line_text (decimal at ∷ pieces)) ((decimal at ++ concat pieces) ++ 10 ∷ []) (line_text-is (decimal at ∷ pieces))
      (plain-no_report line few at pieces [] at_few are ended apart tail-none)

  -- the same of any statement at another line
  pub elsewhere-text : (at : ℕ) (pieces : List (List ℕ)) (tail : List ℕ) → at < 2 ^ 64 → (at ≡ line → ⊥) → AreLines pieces → BeginsWithoutDigit (concat pieces) → IsTail tail →
      HasNoReport line few (line_text (decimal at ∷ pieces) ++ tail)
  elsewhere-text at pieces tail at_few apart are ended is =
      no_report-same line few (line_text (decimal at ∷ pieces) ++ tail) ((decimal at ++ concat pieces) ++ 10 ∷ tail) (line_text-then (decimal at ∷ pieces) tail)
      (elsewhere-no_report line few at pieces tail at_few apart are ended is)

  pub elsewhere-line : (at : ℕ) (pieces : List (List ℕ)) → at < 2 ^ 64 → (at ≡ line → ⊥) → AreLines pieces → BeginsWithoutDigit (concat pieces) → HasNoReport line few (line_text (decimal at ∷ pieces))
  elsewhere-line at pieces at_few apart are ended =
      no_report-same line few (line_text (decimal at ∷ pieces)) ((decimal at ++ concat pieces) ++ 10 ∷ []) (line_text-is (decimal at ∷ pieces))
      (elsewhere-no_report line few at pieces [] at_few apart are ended tail-none)
