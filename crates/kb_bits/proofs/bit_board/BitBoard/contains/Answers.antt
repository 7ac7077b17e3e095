use Rattle.std.proofs.Common.{ℕ, List, ◌/◌, ◌%◌, ◌^◌, ◌↔◌, IsTrue, nat_eq, nat_lt, slice_index, subst, Contains, bit_and}
use Rattle.kb_bits.proofs.Readings.{contains-bit, contains-behind}
use Rattle.kb_bits.proofs.bit_board.BitBoard.contains.Goals as goal

pub returns-then-word-self : goal.returns-then-word-self
returns-then-word-self c =
    let words = c.self.inside.words in
    subst (λ (now : List ℕ). IsTrue (nat_eq (bit_and (slice_index words c.from-word.result / 2 ^ (c.args.n % 64)) 1) 1) ↔ Contains now c.args.n) c.self.view_is
    (contains-bit words c.self.inside.used c.args.n c.from-word.result c.self.invariant c.from-word.ensures)

pub returns-else-word-self : goal.returns-else-word-self
returns-else-word-self c =
    subst (λ (now : List ℕ). IsTrue (nat_lt c.from-word.result c.self.inside.used) ↔ Contains now c.args.n) c.self.view_is
    (contains-behind c.self.inside.words c.self.inside.used c.args.n c.from-word.result c.self.invariant c.from-word.ensures c.if-word-self.false)
