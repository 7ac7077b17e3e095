use Rattle.std.proofs.Common.{sym, subst}
use Rattle.sgf_reader.specs.declared.place.Place.{Place}
use Rattle.sgf_reader.specs.Reading.{StepsOn}
use Rattle.sgf_reader.proofs.OutsideLemmas.{leads-outside}
use Rattle.sgf_reader.proofs.step.step.Goals as goal

pub returns-in-Outside-clause-ok : goal.returns-in-Outside-clause-ok
returns-in-Outside-clause-ok c =
    subst (λ (p : Place). StepsOn c.args.reading.now p c.args.at c.args.byte c.args.reading.now c.outside.result) (sym c.in-Outside.is) (leads-outside _ _ _ _ c.outside.ensures)
