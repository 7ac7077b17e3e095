use Rattle.std.proofs.Common.{refl}
use Rattle.query_script.proofs.statements.numbered_statement.Goals as goal

pub returns-clause-no_make : goal.returns-clause-no_make
returns-clause-no_make c = c.in_default.ensures.none refl

pub returns-clause-no_until : goal.returns-clause-no_until
returns-clause-no_until c = c.in_default-until_of.ensures.none refl

pub returns-clause-no_game : goal.returns-clause-no_game
returns-clause-no_game c = c.in_default-game_of.ensures.none refl

pub returns-clause-no_opening : goal.returns-clause-no_opening
returns-clause-no_opening c = c.in_default-opening_of.ensures.none refl
