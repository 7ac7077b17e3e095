-- Signature patterns, and the signatures that they match.
use Rattle.std.specs.Prelude.{◌≡◌, ◌≢◌, ◌⊎◌, ℕ, ◌<◌, List, slice_index}
use Rattle.kb_geometry.specs.declared.shape.Shape.{Shape}
use Rattle.sgf_reader.specs.Grammar.{IsLetter}
use Rattle.dyer_signature.specs.Signatures.{question_mark}
use Rattle.dyer_signature.specs.Images.{IsSignatureImage}

-- the byte `*`
abbrev pub star : ℕ
star = 42

-- a byte of a signature pattern: a letter, `?` or `*`
abbrev pub IsSignaturePatternByte : ℕ → Type 0
IsSignaturePatternByte byte = IsLetter byte ⊎ ((byte ≡ question_mark) ⊎ (byte ≡ star))

-- the signature has the pattern's byte wherever that isn't `*`
abbrev pub Agrees : List ℕ → List ℕ → Type 0
Agrees signature pattern =
    (k : ℕ) →
    k < 12 →
    slice_index pattern k ≢ star →
    slice_index signature k ≡ slice_index pattern k

-- A signature matches a pattern where some image of it agrees with the pattern.
abbrev pub Matches : Shape → List ℕ → List ℕ → Type 0
Matches shape signature pattern =
    (image : List ℕ) × IsSignatureImage shape signature image × Agrees image pattern
