use Rattle.std.proofs.Common.{◌≡◌, ◌≢◌, ◌<◌, ℕ, length}
use Rattle.std.specs.Prelude.{slice_index}
use Rattle.dyer_signature.specs.Patterns.{star}
use Rattle.dyer_signature.proofs.matching.agrees.Given as goal

abbrev pub invariant-loop-byte : goal.invariant-loop-byte
invariant-loop-byte l =
    (k : ℕ) → k < length l.yielded → slice_index l.pattern.bytes k ≢ star → slice_index l.s.bytes k ≡ slice_index l.pattern.bytes k
