use Rattle.query_script.specs.Script.{script_lines}
use Rattle.query_script.proofs.OneList.{not_both_answers, one_bad_line, one_list}
use Rattle.query_script.proofs.SomeStatements.{told_lines}
use Rattle.query_script.proofs.laws.a_script_has_its_statements_or_a_bad_line.Goals as goal

pub returns-clause-some : goal.returns-clause-some
returns-clause-some c = λ text. told_lines (script_lines text)

pub returns-clause-one_list : goal.returns-clause-one_list
returns-clause-one_list c = λ text. one_list (script_lines text)

pub returns-clause-one_bad_line : goal.returns-clause-one_bad_line
returns-clause-one_bad_line c = λ text. one_bad_line (script_lines text)

pub returns-clause-not_both : goal.returns-clause-not_both
returns-clause-not_both c = λ text. not_both_answers (script_lines text)
