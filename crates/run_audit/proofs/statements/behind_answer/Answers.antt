use Rattle.std.proofs.Common.{subst, sym}
use Rattle.query_script.specs.declared.statement.Statement.{Statement}
use Rattle.session_core.specs.Answers.{IsAnswer}
use Rattle.session_core.specs.Stores.{view_of}
use Rattle.run_audit.specs.Texts.{IsTextOver}
use Rattle.run_audit.proofs.statements.behind_answer.Goals as goal

pub returns-in-Search-clause-departs : goal.returns-in-Search-clause-departs
returns-in-Search-clause-departs g c = λ count is trees text after of.
    c.behind_search.ensures.departs count is trees text after
    (subst (λ (o : Statement). IsTextOver c.args.placed.now.line (view_of c.args.version.now) c.args.session.now o text after) c.in-Search.is of)

pub returns-in-Watch-clause-departs : goal.returns-in-Watch-clause-departs
returns-in-Watch-clause-departs g c = λ count is trees text after of.
    c.behind_watch.ensures.departs count is trees text after
    (subst (λ (o : Statement). IsAnswer c.args.placed.now.line (view_of c.args.version.now) c.args.session.now o text after) (sym c.in-Watch.is)
    (subst (λ (o : Statement). IsTextOver c.args.placed.now.line (view_of c.args.version.now) c.args.session.now o text after) c.in-Watch.is of))

pub returns-in-Watched-clause-departs : goal.returns-in-Watched-clause-departs
returns-in-Watched-clause-departs g c = λ count is trees text after of.
    c.behind_watch-in-Watched.ensures.departs count is trees text after
    (subst (λ (o : Statement). IsAnswer c.args.placed.now.line (view_of c.args.version.now) c.args.session.now o text after) (sym c.in-Watched.is)
    (subst (λ (o : Statement). IsTextOver c.args.placed.now.line (view_of c.args.version.now) c.args.session.now o text after) c.in-Watched.is of))
