use Rattle.std.proofs.Common.{ℕ, List, ◌≡◌, ◌+◌, ◌<◌, ◌↔◌, ◌%◌, refl, subst, Contains}
use Rattle.std.specs.Int.{bit_at}
use Rattle.kb_bits.proofs.Windows.{window_at_word, window_across}
use Rattle.kb_bits.proofs.bit_board.BitBoard.window.Goals as goal

pub returns-then-bits-eq0 : goal.returns-then-bits-eq0
returns-then-bits-eq0 c =
    let w = c.word_at-low.result in
    subst (λ (now : List ℕ). (k : ℕ) → k < 64 → (bit_at w k ≡ 1) ↔ Contains now (c.args.start + k)) c.self.view_is
    (window_at_word c.self.inside.words c.self.inside.used c.args.start c.self.invariant w c.from-first.result c.from-first.ensures c.word_at-low.ensures c.if-bits-eq0.true)

pub returns : goal.returns
returns c =
    let w = c.joined_word.result in
    subst (λ (now : List ℕ). (k : ℕ) → k < 64 → (bit_at w k ≡ 1) ↔ Contains now (c.args.start + k)) c.self.view_is
    (window_across c.self.inside.words c.self.inside.used c.args.start c.self.invariant w c.word_at-low.result c.word_at.result c.from-first.result (c.args.start % 64) c.from-first.ensures refl c.word_at-low.ensures c.word_at.ensures c.joined_word.ensures)
