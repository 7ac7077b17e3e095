use Rattle.std.proofs.Common.{refl}
use Rattle.import_work.proofs.FoundSegments.{gives_all, gives_first, gives_first_later}
use Rattle.import_work.proofs.laws.an_import_gives_what_it_finds.Goals as goal

pub returns-clause-all : goal.returns-clause-all
returns-clause-all c = λ all batch start now segments first last any listed there given none.
    gives_all all batch any start now segments first last given start.source start.body refl refl listed there none

pub returns-clause-first : goal.returns-clause-first
returns-clause-first c = λ all batch start now segments first last after any listed there given later.
    gives_first_later all batch start segments first last after later (gives_first all batch any start now segments first last given start.source start.body refl refl listed there)
