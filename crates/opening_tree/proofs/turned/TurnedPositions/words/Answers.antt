use Rattle.std.proofs.Common.{ap}
use Rattle.opening_tree.specs.Turned.{TurnedState}
use Rattle.opening_tree.proofs.TurnedWords.{words-read}
use Rattle.opening_tree.proofs.turned.TurnedPositions.words.Goals as goal

pub returns-clause-value : goal.returns-clause-value
returns-clause-value c =
    words-read c.self.inside.shape c.args.self.now.shape c.self.inside.words.items c.deref.result.now c.args.self.now.images c.start-start.result c.words_for.result c.count.result c.args.number
    (ap (λ (t : TurnedState). t.shape) c.self.view_is) (ap (λ (t : TurnedState). t.images) c.self.view_is) c.deref.ensures.value c.count.ensures.value c.words_for.ensures c.start-start.ensures c.requires
