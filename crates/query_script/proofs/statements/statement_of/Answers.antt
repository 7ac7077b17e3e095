use Rattle.query_script.proofs.LineStatements.{no_statement}
use Rattle.query_script.proofs.statements.statement_of.Goals as goal

pub returns-clause-none : goal.returns-clause-none
returns-clause-none c =
    let none = c.in_default.ensures in
    let numbered = c.in_default-numbered_statement.ensures in
    let no_import = rw c.in_default-2.is at c.in_ok-path.ensures.none in
    let no_search = rw c.in_default-3.is at c.in_ok-query.ensures.none in
    let no_kept = rw c.in_default-4.is at c.in_ok-query-2.ensures.none in
    let no_retire = rw c.in_default-5.is at c.in_ok-name.ensures.none in
    let no_watch = rw c.in_default-6.is at c.in_ok-name-2.ensures.none in
    let no_watched = rw c.in_default-7.is at c.in_ok-name-3.ensures.none in
    no_statement _ no_search no_import numbered.no_make none.no_wait numbered.no_until no_kept c.in_default-signature_of.ensures.none none.no_players none.no_doubles numbered.no_game numbered.no_opening none.no_report no_retire no_watch no_watched
