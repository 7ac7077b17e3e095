-- What a line of a script is: for the reader's private functions.
use Rattle.std.specs.Prelude.{ℕ, List}
use Rattle.query_script.specs.declared.line.Line.{Line}
use Rattle.query_script.specs.declared.line.Line.TheVariants as line
use Rattle.query_script.specs.declared.statement.Statement.{Statement}
use Rattle.query_script.specs.Script.{IsSearch}
use Rattle.query_script.specs.Statements.{IsSkipped, SpellsStatement, SpellsEnd, SpellsTogether}

-- the line spells no statement that takes one line
abbrev pub SpellsNone : List ℕ → Type 0
SpellsNone text = (s : Statement) → ¬ SpellsStatement text s

-- What the line is, and that it is nothing else.
abbrev pub IsLine : List ℕ → Line → Type 0
IsLine text line.Skipped = IsSkipped text × ¬ SpellsTogether text × ¬ SpellsEnd text
    × SpellsNone text
IsLine text line.Together = SpellsTogether text × ¬ IsSkipped text × ¬ SpellsEnd text
    × SpellsNone text
IsLine text line.End = SpellsEnd text × ¬ IsSkipped text × ¬ SpellsTogether text × SpellsNone text
IsLine text (line.Statement s) =
    SpellsStatement text s × ¬ IsSkipped text × ¬ SpellsTogether text × ¬ SpellsEnd text ×
    ((other : Statement) → SpellsStatement text other → IsSearch other → IsSearch s)
IsLine text line.Bad = ¬ IsSkipped text × ¬ SpellsTogether text × ¬ SpellsEnd text × SpellsNone text
