use Rattle.std.proofs.Common.{[], ◌∷◌}
use Rattle.corner_index.specs.CornerGames.{AreEntriesOf}
use Rattle.corner_index.proofs.CornerLists.{AreEntriesOf-one, four}
use Rattle.corner_index.proofs.corner_index.CornerIndex.of_game.Goals as goal

pub returns : goal.returns
returns c =
    let keys = c.args.keys.now in
    four (λ corner es. AreEntriesOf (keys ∷ []) corner es) _ _ _ _
    (AreEntriesOf-one keys 0 _ _ c.of_corner.ensures.value c.in_ok-of.ensures)
    (AreEntriesOf-one keys 1 _ _ c.of_corner-2.ensures.value c.in_ok-of-2.ensures)
    (AreEntriesOf-one keys 2 _ _ c.of_corner-3.ensures.value c.in_ok-of-3.ensures)
    (AreEntriesOf-one keys 3 _ _ c.of_corner-4.ensures.value c.in_ok-of-4.ensures)
