-- The values of a collection have one first fault at most.
use Rattle.std.proofs.Common.{◌≡◌, ◌⊎◌, ℕ, List, sym, inl, inr, arith}
use Rattle.sgf_reader.specs.declared.collection.Collection.{Collection}
use Rattle.sgf_reader.specs.declared.fault.FaultKind.{FaultKind}
use Rattle.sgf_reader.specs.declared.fault.FaultKind.TheVariants as kind
use Rattle.game_tree.specs.ValueFaults.{IsFirstValueFault}

-- of two first faults at one offset each comes before the other
one-kind : (of other : FaultKind) → (other ≡ of) ⊎ (of ≡ kind.TwoMoves) → (of ≡ other) ⊎ (other ≡ kind.TwoMoves) → of ≡ other
one-kind of other (inl same) back = sym same
one-kind of other (inr two) (inl same) = same
one-kind of other (inr two) (inr also) = cc

pub first_value_fault-one : (text : List ℕ) (collection : Collection) (of other : FaultKind) (at offset : ℕ) → IsFirstValueFault text collection of at → IsFirstValueFault text collection other offset → (of ≡ other) × (at ≡ offset)
first_value_fault-one text collection of other at offset f g =
    elim (f.first other offset g.there) [
      | inl less ↦ absurd (elim (g.first of at f.there) [ inl more ↦ omega arith | inr same ↦ let e : offset ≡ at = same.0 in omega arith ])
      | inr here ↦ elim (g.first of at f.there) [
        | inl more ↦ let e : at ≡ offset = here.0 in absurd (omega arith)
        | inr back ↦ (one-kind of other here.1 back.1, here.0)
      ]
    ]
