-- What a list begins with: lemmas on what is appended and cut back.
use Rattle.std.proofs.Common.{◌≡◌, List, [], ◌++◌, sym, ◌∙◌, ap, append_assoc}
use Rattle.std.specs.Prelude.{OnErr, Result, Ok, Err}
use Rattle.std.proofs.lemmas.List.{append-nil}
use mathlib.Core.List.{IsPrefix}

pub prefix_same : {X : Type 0} (xs : List X) → IsPrefix xs xs
prefix_same xs = ([], append-nil xs)

pub prefix_trans : {X : Type 0} (xs ys zs : List X) → IsPrefix xs ys → IsPrefix ys zs → IsPrefix xs zs
prefix_trans xs ys zs p q = (p.0 ++ q.0, sym (append_assoc xs p.0 q.0) ∙ (ap (λ w. w ++ q.0) p.1 ∙ q.1))

-- after an error of the next step of a loop: what the list began with before it
module _ {T E : Type 0} (result : Result T E) where
  pub refused_further : {X : Type 0} (old between new : List X) → IsPrefix old between → IsPrefix between new → OnErr result (IsPrefix old new)
  refused_further old between new p q = elim result as (λ r. OnErr r (IsPrefix old new)) [ Ok x ↦ tt | Err e ↦ prefix_trans old between new p q ]

  pub refused_behind : {X : Type 0} (old text : List X) {between new : List X} → between ≡ old ++ text → IsPrefix between new → OnErr result (IsPrefix old new)
  refused_behind old text {between} {new} appended begins = refused_further old between new (text, sym appended) begins
