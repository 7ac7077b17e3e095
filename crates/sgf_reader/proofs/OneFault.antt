-- A text has one first fault at most, and none where it is read.
use Rattle.std.proofs.Common.{◌≡◌, ◌⊎◌, ℕ, List, sym, inl, inr, arith}
use Rattle.sgf_reader.specs.declared.fault.FaultKind.{FaultKind}
use Rattle.sgf_reader.specs.declared.fault.FaultKind.TheVariants as kind
use Rattle.sgf_reader.specs.Faults.{IsFirstFault}

-- of two first faults at one offset each comes before the other
one-kind : (of other : FaultKind) → (other ≡ of) ⊎ (of ≡ kind.TooLong) → (of ≡ other) ⊎ (other ≡ kind.TooLong) → of ≡ other
one-kind of other (inl same) back = sym same
one-kind of other (inr long) (inl same) = same
one-kind of other (inr long) (inr longer) = cc

pub first_fault-one : (text : List ℕ) (of other : FaultKind) (at offset : ℕ) → IsFirstFault text of at → IsFirstFault text other offset → (of ≡ other) × (at ≡ offset)
first_fault-one text of other at offset f g =
    elim (f.first other offset g.there) [
      | inl less ↦ absurd (elim (g.first of at f.there) [ inl more ↦ omega arith | inr same ↦ let e : offset ≡ at = same.0 in omega arith ])
      | inr here ↦ elim (g.first of at f.there) [
        | inl more ↦ let e : at ≡ offset = here.0 in absurd (omega arith)
        | inr back ↦ (one-kind of other here.1 back.1, here.0)
      ]
    ]
