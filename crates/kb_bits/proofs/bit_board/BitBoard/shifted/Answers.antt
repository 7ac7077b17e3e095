use Rattle.std.proofs.Common.{◌≡◌, ℕ, ◌+◌, ◌%◌, ◌<◌, ◌≤◌, ◌↔◌, List, refl, subst, arith, Contains}
use Rattle.kb_bits.specs.declared.bit_board.TheConstants.{BOUND, WORDS}
use Rattle.kb_bits.specs.Words.{members}
use Rattle.kb_bits.proofs.Shifts.{IsMoved, cut, AreMoved-start, AreMoved-more, IsMoved-more, IsMoved-room, AreWords-cut, members-shifted}
use Rattle.kb_bits.proofs.bit_board.BitBoard.shifted.Goals as goal
use Rattle.kb_bits.proofs.bit_board.BitBoard.shifted.Goals.{then-end-lt-WORDS, else-end-lt-WORDS}

pub loop-k-init : goal.loop-k-init
loop-k-init c = AreMoved-start c.self.inside.words c.from-skip.result (c.args.by % 64)

pub loop-k-preserved : goal.loop-k-preserved
loop-k-preserved c = AreMoved-more c.self.inside.words c.loop-k.words c.from-skip.result (c.args.by % 64) c.loop-k.k c.loop-k.before c.loop-k.invariant _ c.joined_word.result refl c.joined_word.ensures (omega arith) (omega arith)

-- the words behind the loop, with one more where there is room
whole : (c : goal.After-words_in_use-used) → IsMoved c.self.inside.words c.if-end-lt-WORDS.words c.from-skip.result (c.args.by % 64) c.if-end-lt-WORDS.end
whole c =
    let xs = c.self.inside.words in
    let kept = c.min-kept.result in
    let ended : c.loop-k.k ≡ kept = omega arith in
    let so_far = rw ended at c.loop-k.invariant in
    elim c.if-end-lt-WORDS.branch [
      | then-end-lt-WORDS w ↦
          rw (w.words-is, w.end-is) (IsMoved-more xs c.self.inside.used c.self.invariant c.loop-k.words c.from-skip.result (c.args.by % 64) kept c.loop-k.before w.joined_word-then-end-lt-WORDS.result so_far c.min-kept.ensures w.joined_word-then-end-lt-WORDS.ensures w.joined_word-then-end-lt-WORDS.type_inv w.if-end-lt-WORDS.true)
      | else-end-lt-WORDS w ↦
          rw (w.words-is, w.end-is) (IsMoved-room xs c.self.inside.used c.self.invariant c.loop-k.words c.from-skip.result (c.args.by % 64) kept c.loop-k.before so_far w.if-end-lt-WORDS.false)
    ]

room : (c : goal.After-words_in_use-used) → c.if-end-lt-WORDS.end ≤ WORDS
room c = elim c.if-end-lt-WORDS.branch [ then-end-lt-WORDS w ↦ omega (arith, w.end-is) | else-end-lt-WORDS w ↦ omega (arith, w.end-is) ]

pub invariant_of-result : goal.invariant_of-result
invariant_of-result c =
    let used = c.words_in_use-used in
    AreWords-cut c.self.inside.words c.self.inside.used c.self.invariant c.if-end-lt-WORDS.words c.from-skip.result (c.args.by % 64) c.if-end-lt-WORDS.end c.args.by used.result (omega arith) (omega arith) (whole c) (room c) used.ensures.fewer used.ensures.behind used.ensures.last

pub returns : goal.returns
returns c =
    let used = c.words_in_use-used in
    subst (λ (now : List ℕ). (m : ℕ) → Contains (members (cut c.if-end-lt-WORDS.words)) m ↔ ((k : ℕ) × Contains now k × (m ≡ k + c.args.by) × (m < BOUND))) c.self.view_is
    (members-shifted c.self.inside.words c.self.inside.used c.self.invariant c.if-end-lt-WORDS.words c.from-skip.result (c.args.by % 64) c.if-end-lt-WORDS.end c.args.by used.result (omega arith) (omega arith) (whole c) (room c))
