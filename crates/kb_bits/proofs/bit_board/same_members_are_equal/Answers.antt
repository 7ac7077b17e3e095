use Rattle.std.proofs.Common.{◌≡◌, ℕ, ◌↔◌, List, subst₂, Contains}
use Rattle.kb_bits.specs.WordLaws.{IsStrictlyIncreasing-members}
use Rattle.kb_bits.specs.Words.{members}
use Rattle.kb_bits.proofs.Ascending.{same_from_members}
use Rattle.kb_bits.proofs.bit_board.same_members_are_equal.Goals as goal

pub returns : goal.returns
returns c =
    let xs = c.one.inside.words in
    let ys = c.other.inside.words in
    subst₂ (λ (a b : List ℕ). ((m : ℕ) → Contains a m ↔ Contains b m) → a ≡ b) c.one.view_is c.other.view_is
    (same_from_members (members xs) (members ys) (IsStrictlyIncreasing-members xs) (IsStrictlyIncreasing-members ys))
