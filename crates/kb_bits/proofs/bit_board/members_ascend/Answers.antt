use Rattle.std.proofs.Common.{ℕ, ◌<◌, ◌≤◌, List, length, subst, Contains}
use Rattle.std.specs.List.Sorted.{IsStrictlyIncreasing}
use Rattle.kb_bits.specs.declared.bit_board.TheConstants.{BOUND}
use Rattle.kb_bits.specs.WordLaws.{IsStrictlyIncreasing-members, Contains-from_members}
use Rattle.kb_bits.proofs.Counts.{length-members-le}
use Rattle.kb_bits.proofs.bit_board.members_ascend.Goals as goal

pub returns : goal.returns
returns c =
    let words = c.set.inside.words in
    record {
      ascending = subst IsStrictlyIncreasing c.set.view_is (IsStrictlyIncreasing-members words);
      below = subst (λ (now : List ℕ). (m : ℕ) → Contains now m → m < BOUND) c.set.view_is (λ m h. (Contains-from_members words m h).0);
      count = subst (λ (now : List ℕ). length now ≤ BOUND) c.set.view_is (length-members-le words);
    }
