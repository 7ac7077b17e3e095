use Rattle.std.proofs.Common.{◌≡◌, ℕ, ◌*◌, length, slice_index, sym, ap, ◌∙◌, arith}
use Rattle.std.proofs.lemmas.Nat.{ones-le}
use Rattle.kb_bits.specs.Members.{numbers_below}
use Rattle.kb_bits.specs.Words.{has_bit}
use Rattle.kb_bits.proofs.Counts.{length-numbers_below-le, count-more, count-all}
use Rattle.kb_bits.proofs.bit_board.BitBoard.len.Goals as goal

pub loop-word-init : goal.loop-word-init
loop-word-init c = omega (arith, length-numbers_below-le 0 (has_bit c.self.inside.words))

pub loop-word-preserved : goal.loop-word-preserved
loop-word-preserved c = omega (arith, count-more c.self.inside.words c.self.inside.used c.self.invariant c.loop-word.word)

pub overflow_add-count : goal.overflow_add-count
overflow_add-count c =
    let words = c.self.inside.words in
    omega (arith, length-numbers_below-le (c.loop-word.word * 64) (has_bit words), ones-le 64 (slice_index words c.loop-word.word) (c.self.invariant.fits c.loop-word.word))

pub returns : goal.returns
returns c =
    let ended : c.loop-word.word ≡ c.self.inside.used = omega arith in
    c.loop-word.invariant
    ∙ ap (λ (k : ℕ). length (numbers_below (k * 64) (has_bit c.self.inside.words))) ended
    ∙ sym (ap length (count-all c.self.inside.words c.self.inside.used c.self.invariant))
    ∙ ap length c.self.view_is
