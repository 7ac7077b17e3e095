use Rattle.std.proofs.Common.{◌≡◌, ℕ, ◌+◌, ◌*◌, ◌/◌, ◌%◌, ◌^◌, ◌<◌, List, slice_index, refl, subst, arith, Contains}
use Rattle.std.specs.Int.{w64, trailing_zeros}
use Rattle.kb_bits.specs.Members.{IsNextFrom}
use Rattle.kb_bits.proofs.Nexts.{none-behind, next-left, next-later, none-later}
use Rattle.kb_bits.proofs.bit_board.BitBoard.next_from.Goals as goal

pub returns-then-first-self-clause-none : goal.returns-then-first-self-clause-none
returns-then-first-self-clause-none c =
    subst (λ (now : List ℕ). (k : ℕ) → Contains now k → k < c.args.n) c.self.view_is
    (none-behind c.self.inside.words c.self.inside.used c.args.n c.from-first.result c.self.invariant c.from-first.ensures c.if-first-self.true)

pub returns-then-rest-ne0-clause-some : goal.returns-then-rest-ne0-clause-some
returns-then-rest-ne0-clause-some c =
    let words = c.self.inside.words in
    let left : ℕ = slice_index words c.from-first.result / 2 ^ (c.args.n % 64) in
    let some : 0 < left = omega arith in
    subst (λ (now : List ℕ). IsNextFrom now c.args.n (c.args.n + trailing_zeros w64 left)) c.self.view_is
    (next-left words c.self.inside.used c.args.n c.from-first.result c.self.invariant c.from-first.ensures left refl some).1

pub returns-then-word-ne0-clause-some : goal.returns-then-word-ne0-clause-some
returns-then-word-ne0-clause-some c =
    let words = c.self.inside.words in
    let left : ℕ = slice_index words c.from-first.result / 2 ^ (c.args.n % 64) in
    let none : left ≡ 0 = omega arith in
    let some : 0 < slice_index words c.loop-k.k = omega arith in
    subst (λ (now : List ℕ). IsNextFrom now c.args.n (64 * c.loop-k.k + trailing_zeros w64 (slice_index words c.loop-k.k))) c.self.view_is
    (next-later words c.self.inside.used c.args.n c.from-first.result c.self.invariant c.from-first.ensures left refl none c.loop-k.k c.loop-k.invariant.from c.loop-k.invariant.passed some)

pub returns-clause-none : goal.returns-clause-none
returns-clause-none c =
    let words = c.self.inside.words in
    let left : ℕ = slice_index words c.from-first.result / 2 ^ (c.args.n % 64) in
    let none : left ≡ 0 = omega arith in
    subst (λ (now : List ℕ). (k : ℕ) → Contains now k → k < c.args.n) c.self.view_is
    (none-later words c.self.inside.used c.args.n c.from-first.result c.self.invariant c.from-first.ensures left refl none c.loop-k.k c.loop-k.invariant.from c.loop-k.invariant.passed c.loop-k-test.false)
