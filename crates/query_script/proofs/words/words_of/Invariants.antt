use Rattle.std.proofs.Common.{length}
use Rattle.query_script.specs.Reading.{AreWordsTo, BeginsWithNoBlank}
use Rattle.query_script.proofs.words.words_of.Given as goal

abbrev pub invariant-loop-rest : goal.invariant-loop-rest
invariant-loop-rest l = record {
  read : AreWordsTo l.fn.line l.words.items l.rest;
  first : BeginsWithNoBlank l.rest;
}

abbrev pub decreases-loop-rest : goal.decreases-loop-rest
decreases-loop-rest l = length l.rest
