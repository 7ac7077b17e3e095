use Rattle.std.proofs.Common.{arith}
use Rattle.std.proofs.lemmas.List.{nil_from_length}
use Rattle.game_tree.specs.SimpleText.{hidden_break}
use Rattle.game_tree.proofs.SimpleTexts.{backslash_last, first_and_rest, hidden_at}
use Rattle.game_tree.proofs.simple_text.hidden_byte.Goals as goal

pub returns-in-Some-clause-read : goal.returns-in-Some-clause-read
returns-in-Some-clause-read c = λ more text. hidden_break c.in-Some.ensures.some text

pub returns-in-empty-clause-read : goal.returns-in-empty-clause-read
returns-in-empty-clause-read c = λ more text. backslash_last _ more (nil_from_length _ (omega (arith, c.in-empty.len_below))) text

pub returns-in-len1-up-clause-read : goal.returns-in-len1-up-clause-read
returns-in-len1-up-clause-read c = λ more text. hidden_at _ _ more _ _ (first_and_rest _ c.in-len1-up.len_at_least) c.read_as.ensures text
