use Rattle.std.proofs.Common.{◌≡◌, [], sym, subst, arith}
use Rattle.std.proofs.lemmas.List.{nil_from_length}
use Rattle.sgf_reader.specs.declared.fault.FaultKind.TheVariants.{Ended, NoGame}
use Rattle.sgf_reader.specs.declared.fault.SgfFault.{SgfFault}
use Rattle.sgf_reader.specs.Reading.{IsEndFault, has_ended, has_no_game}
use Rattle.sgf_reader.proofs.EndLemmas.{outside_from_not}
use Rattle.sgf_reader.proofs.reading.Reading.finish.Goals as goal

pub returns-in-Within-clause-fault : goal.returns-in-Within-clause-fault
returns-in-Within-clause-fault c = λ f is.
    let same : f ≡ record { kind = Ended; at = c.args.at } = cc in
    subst (λ (g : SgfFault). IsEndFault c.args.self c.args.place c.args.at g) (sym same) (has_ended c.in-Within.field-0 c.in-Within.is)

pub returns-then-game_count-eq0-clause-fault : goal.returns-then-game_count-eq0-clause-fault
returns-then-game_count-eq0-clause-fault c = λ f is.
    let same : f ≡ record { kind = NoGame; at = c.args.at } = cc in
    let empty : c.args.self.games ≡ [] = nil_from_length c.args.self.games (omega (arith, c.game_count.ensures, c.if-game_count-eq0.true)) in
    subst (λ (g : SgfFault). IsEndFault c.args.self c.args.place c.args.at g) (sym same) (has_no_game (outside_from_not c.args.place c.in_default.not-Within) empty)
