use Rattle.game_tree.specs.SimpleText.{line_break}
use Rattle.game_tree.proofs.SimpleTexts.{byte_at, first_and_rest, first_shown}
use Rattle.game_tree.proofs.simple_text.shown_byte.Goals as goal

pub returns-in-Some-clause-read : goal.returns-in-Some-clause-read
returns-in-Some-clause-read c = λ more text. line_break c.in-Some.ensures.some text

pub returns-in-len1-up-clause-read : goal.returns-in-len1-up-clause-read
returns-in-len1-up-clause-read c = λ more text. byte_at _ _ more _ _ (first_and_rest _ c.in-len1-up.len_at_least) (first_shown _ c.in-len1-up.len_at_least c.requires.shown) c.read_as.ensures text
