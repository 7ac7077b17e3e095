use Rattle.std.proofs.Common.{◌≡◌, ℕ, List, ◌⊎◌, ◌↔◌, subst₂, arith, Contains}
use Rattle.kb_bits.specs.Words.{members}
use Rattle.kb_bits.proofs.Unions.{AreUnited-start, AreUnited-more, AreWords-united, members-united}
use Rattle.kb_bits.proofs.bit_board.BitBoard.union.Goals as goal

pub loop-k-init : goal.loop-k-init
loop-k-init c = AreUnited-start c.self.inside.words c.other.inside.words

pub loop-k-preserved : goal.loop-k-preserved
loop-k-preserved c = AreUnited-more c.self.inside.words c.other.inside.words c.loop-k.words c.loop-k.k c.loop-k.invariant (omega arith)

pub invariant_of-result : goal.invariant_of-result
invariant_of-result c =
    let ended : c.loop-k.k ≡ c.max-used.result = omega arith in
    AreWords-united c.self.inside.words c.other.inside.words c.self.inside.used c.other.inside.used c.self.invariant c.other.invariant c.loop-k.words c.max-used.result c.max-used.ensures (rw ended at c.loop-k.invariant)

pub returns : goal.returns
returns c =
    let ended : c.loop-k.k ≡ c.max-used.result = omega arith in
    subst₂ (λ (xs ys : List ℕ). (m : ℕ) → Contains (members c.loop-k.words) m ↔ (Contains xs m ⊎ Contains ys m)) c.self.view_is c.other.view_is
    (members-united c.self.inside.words c.other.inside.words c.self.inside.used c.other.inside.used c.self.invariant c.other.invariant c.loop-k.words c.max-used.result c.max-used.ensures (rw ended at c.loop-k.invariant))
