use Rattle.std.proofs.Common.{◌≡◌, ◌*◌, ◌∙◌, ℕ, List, ap, arith, length, replicate, subst, sym}
use Rattle.std.proofs.lemmas.List.{with_items_is}
use Rattle.kb_geometry.specs.Board.{point_count}
use Rattle.kb_geometry.specs.Capture.{empty_board}
use Rattle.opening_tree.specs.Frames.{AreImages, symmetries_of}
use Rattle.opening_tree.specs.Packing.{words_for}
use Rattle.opening_tree.specs.Turned.{AreTurned, turned_shown}
use Rattle.opening_tree.proofs.PackedCells.{all_zero}
use Rattle.opening_tree.proofs.TurnedWords.{AreTurned-none, images-none}
use Rattle.opening_tree.proofs.turned.TurnedPositions.clear.Goals as goal

pub invariant_of-self : goal.invariant_of-self
invariant_of-self c =
    let shape = c.self.inside.shape in
    let long : length c.loop-word.word-items ≡ length c.self.inside.words.items = c.loop-word.auto.word-items ∙ ap length c.deref_mut-word-items.ensures.value in
    let zeros : ◌≡◌ {A = List ℕ} c.loop-word.word-items (replicate (words_for (point_count c.self.inside.shape) * symmetries_of c.self.inside.shape) 0) =
    all_zero (words_for (point_count c.self.inside.shape) * symmetries_of c.self.inside.shape) c.loop-word.word-items (long ∙ c.self.invariant.room) (λ k lt. c.loop-word.invariant k (omega (arith, lt, long, c.self.invariant.room, c.loop-word-test.false, c.loop-word.auto.word-items))) in
    subst (AreTurned shape) (sym (with_items_is c.self.inside.words c.loop-word.word-items (omega (arith, long, c.self.inside.words.ok)))) (AreTurned-none shape c.loop-word.word-items zeros)

pub returns-clause-images : goal.returns-clause-images
returns-clause-images c =
    let shape = c.self.inside.shape in
    let long : length c.loop-word.word-items ≡ length c.self.inside.words.items = c.loop-word.auto.word-items ∙ ap length c.deref_mut-word-items.ensures.value in
    let zeros : ◌≡◌ {A = List ℕ} c.loop-word.word-items (replicate (words_for (point_count c.self.inside.shape) * symmetries_of c.self.inside.shape) 0) =
    all_zero (words_for (point_count c.self.inside.shape) * symmetries_of c.self.inside.shape) c.loop-word.word-items (long ∙ c.self.invariant.room) (λ k lt. c.loop-word.invariant k (omega (arith, lt, long, c.self.invariant.room, c.loop-word-test.false, c.loop-word.auto.word-items))) in
    subst (λ (ws : List ℕ). AreImages c.self.inside.shape (empty_board c.self.inside.shape) (turned_shown c.self.inside.shape ws)) (sym (with_items_is c.self.inside.words c.loop-word.word-items (omega (arith, long, c.self.inside.words.ok)))) (images-none shape c.loop-word.word-items zeros)
