use Rattle.std.proofs.Common.{sym, subst}
use Rattle.std.proofs.lemmas.Result.{IfOk-weaker}
use Rattle.import_work.specs.Judged.{IsJudgedAs}
use Rattle.import_work.proofs.Judges.{games_told, refused_judged}
use Rattle.import_work.proofs.judge.judged.Goals as goal

pub returns-in-Refused-clause-judged : goal.returns-in-Refused-clause-judged
returns-in-Refused-clause-judged c = λ text is. refused_judged text.name text.bytes c.in-Refused.kind c.in-Refused.at c.args.before c.args.games.now (rw c.in-Refused.is at is)

pub returns-in-Games-clause-judged : goal.returns-in-Games-clause-judged
returns-in-Games-clause-judged c = IfOk-weaker c.in_room.result _ _ (λ r h text is.
    let told = games_told text.name text.bytes c.in-Games.own c.in-Games.nodes (rw c.in-Games.is at is) in
    subst (λ b. IsJudgedAs (record { name = text.name; bytes = b }) c.args.before r.1 r.0 c.args.games.now c.in_room.new.games) (sym told.bytes_are)
    (h text.name told.content told.trees told.have told.own_are told.nodes_are told.few)) c.in_room.ensures.judged
