use Rattle.std.proofs.Common.{◌∙◌}
use Rattle.sgf_reader.proofs.ReadingLemmas.{game-flat, game-view}
use Rattle.sgf_reader.proofs.reading.Reading.end_game.Goals as goal

pub invariant_of-self-2 : goal.invariant_of-self-2
invariant_of-self-2 c =
    let s = c.self.inside in
    rw c.in_ok-push.ensures.items (game-flat c.self.invariant _ (c.len-end.ensures ∙ s.nodes.ok.0))

pub returns-clause-ok : goal.returns-clause-ok
returns-clause-ok c =
    let s = c.self.inside in
    rw c.in_ok-push.ensures.items (game-view c.self.invariant _ _ _ _ c.self.view_is (c.len-end.ensures ∙ s.nodes.ok.0))
