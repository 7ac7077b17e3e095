use Rattle.std.proofs.Common.{◌≡◌, ℕ, List, true, false, subst₂, arith}
use Rattle.kb_bits.specs.Words.{members}
use Rattle.kb_bits.proofs.Sameness.{same_counts, word_with_bits, same_members, TellsSame, TellsSame-true, TellsSame-false}
use Rattle.kb_bits.proofs.bit_board.BitBoardPartialEq.eq.Goals as goal

pub returns-then-self-other : goal.returns-then-self-other
returns-then-self-other c =
    let xs = c.self.inside.words in
    let ys = c.other.inside.words in
    let apart = TellsSame-false (members xs) (members ys) (λ e. let same = same_counts xs ys c.self.inside.used c.other.inside.used c.self.invariant c.other.invariant e in absurd (omega arith)) in
    let h = subst₂ (λ (a b : List ℕ). TellsSame a b false) c.self.view_is c.other.view_is apart in
    record { value = h.value; same = h.same }

pub returns-then-self-k : goal.returns-then-self-k
returns-then-self-k c =
    let xs = c.self.inside.words in
    let ys = c.other.inside.words in
    let apart = TellsSame-false (members xs) (members ys) (λ e. let same = word_with_bits xs ys c.self.inside.used c.other.inside.used c.self.invariant c.other.invariant e c.loop-k.k in absurd (omega arith)) in
    let h = subst₂ (λ (a b : List ℕ). TellsSame a b false) c.self.view_is c.other.view_is apart in
    record { value = h.value; same = h.same }

pub returns : goal.returns
returns c =
    let xs = c.self.inside.words in
    let ys = c.other.inside.words in
    let counts : c.self.inside.used ≡ c.other.inside.used = omega arith in
    let same = same_members xs ys c.self.inside.used c.other.inside.used c.self.invariant c.other.invariant counts (λ j lt. c.loop-k.invariant j (omega arith)) in
    let h = subst₂ (λ (a b : List ℕ). TellsSame a b true) c.self.view_is c.other.view_is (TellsSame-true (members xs) (members ys) same) in
    record { value = h.value; same = h.same }
