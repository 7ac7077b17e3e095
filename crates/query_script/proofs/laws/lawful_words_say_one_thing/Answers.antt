use Rattle.query_script.proofs.LawfulWords.{say_one_thing}
use Rattle.query_script.proofs.laws.lawful_words_say_one_thing.Goals as goal

pub returns : goal.returns
returns c = say_one_thing
