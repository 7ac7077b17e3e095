use Rattle.std.proofs.Common.{◌≡◌, ◌*◌, ◌∙◌, ℕ, List, ap, replicate}
use Rattle.kb_geometry.specs.Board.{point_count}
use Rattle.opening_tree.specs.Frames.{symmetries_of}
use Rattle.opening_tree.specs.Packing.{words_for}
use Rattle.opening_tree.proofs.TurnedWords.{images-none}
use Rattle.opening_tree.proofs.turned.TurnedPositions.new.Goals as goal

pub returns-clause-images : goal.returns-clause-images
returns-clause-images c =
    let many : c.words_for.result * c.from.result ≡ words_for (point_count c.args.shape) * symmetries_of c.args.shape = λ i. (c.words_for.ensures ∙ ap words_for c.count.ensures.value) i * (c.from.ensures ∙ c.symmetry_count.ensures) i in
    let is : ◌≡◌ {A = List ℕ} c.in_ok-words.words.items (replicate (words_for (point_count c.args.shape) * symmetries_of c.args.shape) 0) = c.in_ok-words.ensures.items_if_clones_equal (λ y e. e) ∙ ap (λ (n : ℕ). replicate {A = ℕ} n 0) many in
    images-none c.args.shape c.in_ok-words.words.items is
