use Rattle.std.proofs.Common.{inl, inr}
use Rattle.pattern_syntax.proofs.Reading.{spells_or_fails, first_fault-one}
use Rattle.pattern_syntax.proofs.laws.a_pattern_text_has_one_first_fault.Goals as goal

pub returns-clause-some : goal.returns-clause-some
returns-clause-some c = λ text. elim (spells_or_fails text) [ inl spelled ↦ inl spelled | inr found ↦ inr (found.0, found.1) ]

pub returns-clause-one : goal.returns-clause-one
returns-clause-one c = first_fault-one
