-- The statements that begin an import, by its source.
use Rattle.query_script.specs.declared.statement.Statement.{Statement}
use Rattle.query_script.specs.declared.statement.Statement.TheVariants as statement
use Rattle.import_work.specs.declared.source.Source.{Source}
use Rattle.import_work.specs.declared.source.Source.TheVariants as source

-- the statement that begins an import from this source
abbrev pub statement_of : Source → Statement
statement_of (source.Under path) = statement.Import path
statement_of (source.Made games start) = statement.Make games start

-- the statement is no import, also of made games
abbrev pub IsNoImport : Statement → Type 0
IsNoImport (statement.Import path) = ⊥
IsNoImport (statement.Make games start) = ⊥
IsNoImport other = Unit {0}
