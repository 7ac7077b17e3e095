use Rattle.std.proofs.Common.{◌≡◌, ℕ, ◌<◌, ◌↔◌, slice_index}
use Rattle.std.specs.Int.{bit_at}
use Rattle.final_index.proofs.planes.common.Given as goal

-- the bits that are in the first so many words too
abbrev pub invariant-loop-p : goal.invariant-loop-p
invariant-loop-p l = (g : ℕ) → (bit_at l.common g ≡ 1) ↔ ((bit_at l.word g ≡ 1) × ((p : ℕ) → p < l.p → bit_at (slice_index l.plane p) g ≡ 1))
