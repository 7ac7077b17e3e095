-- Texts that are appended one after another.
use Rattle.std.proofs.Common.{◌≡◌, ◌++◌, ℕ, List, append_assoc}

pub seven_regrouped : (h a b c d e f : List ℕ) → h ++ (a ++ b ++ c ++ d ++ e ++ f) ≡ h ++ a ++ b ++ c ++ d ++ e ++ f
seven_regrouped h a b c d e f = simp append_assoc
