use Rattle.import_work.proofs.MadeSegments.{made_all_told, made_given}
use Rattle.import_work.proofs.laws.made_games_give_all.Goals as goal

pub returns-clause-given : goal.returns-clause-given
returns-clause-given c = λ told batch start now segments first last games seed any from listed given none.
    made_given told batch any start now segments first last games seed from listed given none

pub returns-clause-told : goal.returns-clause-told
returns-clause-told c = made_all_told
