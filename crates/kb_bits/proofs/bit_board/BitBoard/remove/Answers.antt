use Rattle.std.proofs.Common.{◌≢◌, ℕ, List, ◌↔◌, set, slice_index, subst, Contains}
use Rattle.kb_bits.specs.Words.{members}
use Rattle.kb_bits.proofs.OneBit.{without_bit, AreWords-without_last, AreWords-without_same, members-without}
use Rattle.kb_bits.proofs.bit_board.BitBoard.remove.Goals as goal

pub invariant_of-self : goal.invariant_of-self
invariant_of-self c =
    let used = c.words_in_use-self-inside in
    AreWords-without_last c.self.inside.words c.self.inside.used c.args.n c.from-word.result c.self.invariant c.requires c.from-word.ensures c.if-word-self.true used.result used.ensures.fewer used.ensures.behind used.ensures.last

pub invariant_of-self-else-word-self : goal.invariant_of-self-else-word-self
invariant_of-self-else-word-self c = AreWords-without_same c.self.inside.words c.self.inside.used c.args.n c.from-word.result c.self.invariant c.requires c.from-word.ensures c.if-word-self.false

pub returns-then-word-self : goal.returns-then-word-self
returns-then-word-self c =
    let words = c.self.inside.words in
    let now = members (set words c.from-word.result (without_bit (slice_index words c.from-word.result) c.args.n)) in
    subst (λ (old : List ℕ). (m : ℕ) → Contains now m ↔ (Contains old m × (m ≢ c.args.n))) c.self.view_is
    (members-without words c.self.inside.used c.args.n c.from-word.result c.self.invariant c.requires c.from-word.ensures)

pub returns-else-word-self : goal.returns-else-word-self
returns-else-word-self c =
    let words = c.self.inside.words in
    let now = members (set words c.from-word.result (without_bit (slice_index words c.from-word.result) c.args.n)) in
    subst (λ (old : List ℕ). (m : ℕ) → Contains now m ↔ (Contains old m × (m ≢ c.args.n))) c.self.view_is
    (members-without words c.self.inside.used c.args.n c.from-word.result c.self.invariant c.requires c.from-word.ensures)
