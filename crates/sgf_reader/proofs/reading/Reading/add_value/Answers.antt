use Rattle.sgf_reader.proofs.ReadingLemmas.{pair-flat, pair-view}
use Rattle.sgf_reader.proofs.reading.Reading.add_value.Goals as goal

pub invariant_of-self-2 : goal.invariant_of-self-2
invariant_of-self-2 c = rw c.in_ok-push.ensures.items (pair-flat c.self.invariant c.args.pair)

pub returns-clause-ok : goal.returns-clause-ok
returns-clause-ok c = λ reading. rw c.in_ok-push.ensures.items (pair-view c.self.invariant _ c.args.pair _ _ c.self.view_is reading)
