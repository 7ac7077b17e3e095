use Rattle.std.proofs.Common.{ℕ, replicate, ap, ◌∙◌, ◌*◌}
use Rattle.kb_geometry.specs.Board.{point_count}
use Rattle.final_index.proofs.GamesOfWords.{games_of_words-none, same_view}
use Rattle.final_index.proofs.planes.Planes.none.Goals as goal

pub returns : goal.returns
returns c = same_view c.args.shape _ _ (games_of_words-none (point_count c.args.shape) c.args.count c.requires c.in_ok-words.words.items
    (c.in_ok-words.ensures.items_if_clones_equal (λ y e. e) ∙ ap (λ (n : ℕ). replicate {A = ℕ} (3 * n) 0) (c.from.ensures ∙ c.count.ensures.value)))
