-- Openings by their numbers: which words have a number, and that numbers are kept.
use Prim.Native.Nat.{zero}
use Rattle.std.proofs.Common.{ℕ, suc, Bool, true, false, cond, List, [], ◌∷◌, subst}
use Rattle.std.specs.Prelude.{nat_eq}
use Rattle.std.specs.Cmp.Lexicographic.{pointwise}
use Rattle.std.proofs.lemmas.List.Elements.{All-head, All-tail}
use Rattle.opening_tree.specs.declared.answer.Opening.{Opening}
use Rattle.opening_tree.specs.OpeningTables.{begun, changed}
use Rattle.opening_tree.specs.Packing.{AreCells}
use Rattle.opening_tree.specs.StoredGroups.{AreKeptIn, AreKeys, IsKeyAt, Stored}

-- the words of a number are a position
pub key-cells : (points : ℕ) (es : List Stored) (at : ℕ) (words : List ℕ) → AreKeys points es → IsKeyAt es at words → AreCells points words
key-cells points [] at words keys is = absurd is
key-cells points (x ∷ xs) zero words keys is = subst (AreCells points) is (All-head (λ (e : Stored). AreCells points e.0) x xs keys)
key-cells points (x ∷ xs) (suc at) words keys is = key-cells points xs at words (All-tail (λ (e : Stored). AreCells points e.0) x xs keys) is.1

-- an opening that changes keeps its words
pub kept-changed : (F : Opening → Opening) (es : List Stored) (at : ℕ) → AreKeptIn es (changed F es at)
kept-changed F [] at k words is = is
kept-changed F (x ∷ xs) zero zero words is = is
kept-changed F (x ∷ xs) zero (suc k) words is = is
kept-changed F (x ∷ xs) (suc at) zero words is = is
kept-changed F (x ∷ xs) (suc at) (suc k) words is = (is.0, kept-changed F xs at k words is.1)

-- one that is begun comes behind all others
pub kept-begun : (own : List ℕ) (none : Opening) (es : List Stored) → AreKeptIn es (begun es own none)
kept-begun own none [] k words is = absurd is
kept-begun own none (x ∷ xs) k words is = by (pointwise nat_eq own x.0) k is (λ j there. kept-begun own none xs j words there)
  where
    by : (b : Bool) (j : ℕ) → IsKeyAt (x ∷ xs) j words → ((i : ℕ) → IsKeyAt xs i words → IsKeyAt (begun xs own none) i words) → IsKeyAt (cond b (x ∷ xs) (x ∷ begun xs own none)) j words
    by true j here rest = here
    by false zero here rest = here
    by false (suc j) here rest = (here.0, rest j here.1)
