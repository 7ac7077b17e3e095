use Rattle.query_script.proofs.Errors.{no_error}
use Rattle.query_script.proofs.ReadInside.{other_statement}
use Rattle.query_script.proofs.progress.read_statement.Goals as goal

pub returns : goal.returns
returns c = record {
  read = λ lines placed h at. rw c.broken.ensures
      (other_statement lines c.args.number placed c.args.block.line c.args.block.searches.items h c.args.statement (λ search. c.in_default.not-Search search.0 search.1 search.2) at);
  bad_line = λ k is. no_error is;
}
