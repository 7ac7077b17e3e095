use Rattle.std.proofs.Common.{◌≡◌, ℕ, List, ◌⊎◌, ◌↔◌, set, slice_index, subst, Contains}
use Rattle.kb_bits.specs.Words.{members}
use Rattle.kb_bits.proofs.OneBit.{with_bit, AreWords-with, members-with}
use Rattle.kb_bits.proofs.bit_board.BitBoard.insert.Goals as goal

pub invariant_of-self : goal.invariant_of-self
invariant_of-self c = AreWords-with c.self.inside.words c.self.inside.used c.args.n c.from-word.result c.self.invariant c.requires c.from-word.ensures c.max-self-inside.result c.max-self-inside.ensures

pub returns : goal.returns
returns c =
    let words = c.self.inside.words in
    let now = members (set words c.from-word.result (with_bit (slice_index words c.from-word.result) c.args.n)) in
    subst (λ (old : List ℕ). (m : ℕ) → Contains now m ↔ (Contains old m ⊎ (m ≡ c.args.n))) c.self.view_is
    (members-with words c.self.inside.used c.args.n c.from-word.result c.self.invariant c.requires c.from-word.ensures c.max-self-inside.result c.max-self-inside.ensures)
