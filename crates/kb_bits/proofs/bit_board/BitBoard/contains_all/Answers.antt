use Rattle.std.proofs.Common.{◌≡◌, ℕ, List, ◌↔◌, IsTrue, nat_eq, subst₂, arith, Contains}
use Rattle.kb_bits.proofs.Subsets.{TellsLacking-start, TellsLacking-more, contains_all-missing}
use Rattle.kb_bits.proofs.bit_board.BitBoard.contains_all.Goals as goal

pub loop-k-init : goal.loop-k-init
loop-k-init c = TellsLacking-start c.self.inside.words c.other.inside.words

pub loop-k-preserved : goal.loop-k-preserved
loop-k-preserved c = TellsLacking-more c.self.inside.words c.other.inside.words c.loop-k.k c.loop-k.missing c.loop-k.invariant

pub returns : goal.returns
returns c =
    let ended : c.loop-k.k ≡ c.other.inside.used = omega arith in
    subst₂ (λ (xs ys : List ℕ). IsTrue (nat_eq c.loop-k.missing 0) ↔ ((m : ℕ) → Contains ys m → Contains xs m)) c.self.view_is c.other.view_is
    (contains_all-missing c.self.inside.words c.other.inside.words c.self.inside.used c.other.inside.used c.self.invariant c.other.invariant c.loop-k.missing (rw ended at c.loop-k.invariant))
