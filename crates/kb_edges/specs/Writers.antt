-- What a writer that tells its bytes holds after a write.
use Rattle.std.specs.Prelude.{ℕ, ◌≤◌, List, length, take}
use Rattle.std.specs.declared.option.Option.{Option}
use Rattle.std.specs.Io.KnownBytes.{Appends}

-- The writer took some front of the piece once, the whole or nothing of it among these.
abbrev pub AppendsAFront : Option (List ℕ) → Option (List ℕ) → List ℕ → Type 0
AppendsAFront before after piece =
    (n : ℕ) × (n ≤ length piece) × Appends before after (take n piece)
