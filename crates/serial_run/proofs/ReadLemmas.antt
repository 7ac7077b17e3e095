-- Reading a text in pieces.
use Rattle.std.proofs.Common.{◌≡◌, ℕ, ◌≤◌, List, [], ◌++◌, length, take, drop, sym, ap, subst, ◌∙◌, append_assoc, arith}
use Rattle.std.proofs.Math.Seq.{drop-append_seam, take-append_seam}
use Rattle.std.proofs.lemmas.List.{append-nil, drop_all, take-append-drop, take_all}

-- what is read, where as many bytes are read as may be
pub read_full : (bytes text rest : List ℕ) (n : ℕ) → bytes ≡ text ++ rest → length text ≡ n → (text ≡ take n bytes) × (rest ≡ drop n bytes)
read_full bytes text rest n all full = (
  sym (ap (take n) all ∙ subst (λ k. take k (text ++ rest) ≡ text) full (take-append_seam text rest)),
  sym (ap (drop n) all ∙ subst (λ k. drop k (text ++ rest) ≡ rest) full (drop-append_seam text rest)),
)

-- what is read, where nothing is left
pub read_to_end : (bytes text rest : List ℕ) (n : ℕ) → bytes ≡ text ++ rest → rest ≡ [] → length text ≤ n → (text ≡ take n bytes) × (rest ≡ drop n bytes)
read_to_end bytes text rest n all none short =
    let whole : bytes ≡ text = all ∙ ap (λ xs. text ++ xs) none ∙ append-nil text in
    let within : length bytes ≤ n = omega (arith, ap length whole) in
    (sym (take_all n bytes within ∙ whole), none ∙ sym (drop_all n bytes within))

-- a piece more is read
pub piece_added : (bytes text rest more : List ℕ) (n : ℕ) → bytes ≡ text ++ rest → more ≡ text ++ take n rest → bytes ≡ more ++ drop n rest
piece_added bytes text rest more n all added =
    all ∙ ap (λ xs. text ++ xs) (sym (take-append-drop n rest)) ∙ sym (append_assoc text (take n rest) (drop n rest)) ∙ ap (λ xs. xs ++ drop n rest) (sym added)

-- nothing is left of nothing
pub drop_of_none : (n : ℕ) (rest : List ℕ) → rest ≡ [] → drop n rest ≡ []
drop_of_none n rest none = ap (drop n) none ∙ drop_all n [] (omega arith)
