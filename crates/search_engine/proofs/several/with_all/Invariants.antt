use Rattle.search_engine.specs.Several.{AreAllAdded}
use Rattle.search_engine.proofs.several.with_all.Given as goal

abbrev pub invariant-loop-answer : goal.invariant-loop-answer
invariant-loop-answer l = AreAllAdded l.fn.answers.items l.yielded l.all.items
