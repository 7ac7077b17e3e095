use Rattle.std.proofs.Common.{◌≢◌, ◌∷◌, [], codes, rules}
use Rattle.query_script.specs.Words.{bare}
use Rattle.query_script.proofs.LineStatements.{bad-line, end-line, statement-line, together-line}
use Rattle.query_script.proofs.line.line_of.Goals as goal

pub returns-then-is_name : goal.returns-then-is_name
returns-then-is_name c = λ text are shown. together-line text _ are shown (c.is_name.ensures.0 c.if-is_name.true)

pub returns-then-is_name-2 : goal.returns-then-is_name-2
returns-then-is_name-2 c = λ text are shown. end-line text _ are shown (c.is_name-2.ensures.0 c.if-is_name-2.true)

pub returns-in-Some : goal.returns-in-Some
returns-in-Some c = λ text are shown.
    let no_together : c.args.words.now ≢ bare (codes "together") ∷ [] = search rules in
    let no_end : c.args.words.now ≢ bare (codes "end") ∷ [] = search rules in
    statement-line text c.args.words.now c.in-Some.statement are shown no_together no_end (rw c.in-Some.is at c.in_ok-statement.ensures.some)

pub returns-in-None : goal.returns-in-None
returns-in-None c = λ text are shown.
    let no_together : c.args.words.now ≢ bare (codes "together") ∷ [] = search rules in
    let no_end : c.args.words.now ≢ bare (codes "end") ∷ [] = search rules in
    bad-line text c.args.words.now are shown no_together no_end (rw c.in-None.is at c.in_ok-statement.ensures.none)
