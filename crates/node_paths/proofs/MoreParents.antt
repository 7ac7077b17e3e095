-- The parents of one node more.
use Rattle.std.proofs.Common.{◌≡◌, ℕ, ◌+◌, ◌<◌, ◌≤◌, Option, Some, None, subst, arith, inl, inr}
use Rattle.std.proofs.lemmas.Bool.{cases_lt}
use Rattle.node_paths.specs.Parents.{AreParents, MayHaveParent}
use Rattle.node_paths.proofs.PathLists.{IsOnPathTo-same}

-- two parent functions that are the same below a number: each node up to that number may have the same parents
module _ {p : ℕ → Option ℕ} {all : ℕ} (q : ℕ → Option ℕ) (count : ℕ) (are : AreParents p all) (agree : (n : ℕ) → n < count → p n ≡ q n) where
  pub may_have-same : (n : ℕ) (o : Option ℕ) → n ≤ count → MayHaveParent p n o → MayHaveParent q n o
  may_have-same n None h may = may
  may_have-same n (Some m) h may = (may.0, IsOnPathTo-same q count are agree may.1 (omega (arith, may.0)))

pub AreParents-more : {p : ℕ → Option ℕ} {count : ℕ} (q : ℕ → Option ℕ) (more : ℕ) →
    AreParents p count →
    MayHaveParent p count (q count) →
    more ≡ count + 1 →
    ((n : ℕ) → n < count → p n ≡ q n) →
    ((n : ℕ) → more ≤ n → q n ≡ None) →
    AreParents q more
AreParents-more {p} {count} q more are next counted agree past = record {
  each = λ n h. elim (cases_lt n count) [
    | inl l ↦
        may_have-same q count are agree n (q n) (omega arith)
        (subst (λ (o : Option ℕ). MayHaveParent p n o) (agree n l) (are.each n l))
    | inr l ↦
        let here : count ≡ n = omega (arith, counted) in
        subst (λ (i : ℕ). MayHaveParent q i (q i)) here (may_have-same q count are agree count (q count) (omega arith) next)
  ];
  past = past;
}
