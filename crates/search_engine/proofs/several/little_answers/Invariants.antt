use Rattle.std.proofs.Common.{◌≡◌, length, take}
use Rattle.std.specs.List.{AllZip}
use Rattle.search_engine.specs.Answers.{IsAnswerOf}
use Rattle.search_engine.proofs.several.little_answers.Given as goal

abbrev pub invariant-loop-one : goal.invariant-loop-one
invariant-loop-one l = record {
  as_many : length l.answers.items ≡ l.one-index;
  are : AllZip IsAnswerOf (take (length l.answers.items) l.asked) l.answers.items;
}
