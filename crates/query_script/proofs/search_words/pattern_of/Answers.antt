use Rattle.std.proofs.Common.{◌∙◌, Err, ap}
use Rattle.query_script.proofs.PatternWords.{has_fault, not_utf8}
use Rattle.query_script.proofs.search_words.pattern_of.Goals as goal

pub returns-in_default-from_utf8-clause-none : goal.returns-in_default-from_utf8-clause-none
returns-in_default-from_utf8-clause-none c = not_utf8 _ _ c.in-Some.ensures.some c.in_default-from_utf8.ensures.cases.0

pub returns-in-Err-Fault-clause-none : goal.returns-in-Err-Fault-clause-none
returns-in-Err-Fault-clause-none c =
    has_fault _ _ _ _ c.in-Some.ensures.some c.in-Ok.ensures.cases.0 (c.read_pattern.ensures.fault _ (c.in-Err-Fault.is ∙ ap Err c.in-Err-Fault.field-0-is))
