-- The script: its lines, its blocks of searches, the statements that it spells, and the least line
-- that is bad.
use Rattle.std.specs.Prelude.{◌≡◌, ◌==◌, ◌&&◌, ℕ, ◌-◌, ◌<◌, ◌≤◌, nat_lt, List, [], ◌∷◌, length, map, take, slice_index_or, All, AllPairs, Any, if◌then◌else◌}
use Rattle.bstr.specs.Text.{lines_of}
use Rattle.pattern_images.specs.declared.query.Query.{Query}
use Rattle.info_filter.specs.declared.filter.Filter.{Filter}
use Rattle.query_script.specs.declared.statement.Placed.{Placed}
use Rattle.query_script.specs.declared.statement.PlacedSearch.{PlacedSearch}
use Rattle.query_script.specs.declared.statement.Statement.{Statement}
use Rattle.query_script.specs.declared.statement.Statement.TheVariants as statement
use Rattle.query_script.specs.Bytes.{carriage_return, line_feed}
use Rattle.query_script.specs.Statements.{IsSkipped, SpellsStatement, SpellsEnd, SpellsSearch, SpellsTogether}

-- the bytes without the last one, if that is this byte
abbrev pub without_last : ℕ → List ℕ → List ℕ
without_last c bytes = if nat_lt 0 (length bytes)
    && (slice_index_or bytes (length bytes - 1) 0 == c) then take (length bytes - 1) bytes else
    bytes

-- a line without its line feed, and without one carriage return before that or before the end
abbrev pub without_end : List ℕ → List ℕ
without_end line = without_last carriage_return (without_last line_feed line)

-- the most bytes of a script
abbrev pub most_script_bytes : ℕ
most_script_bytes = 1048576

-- the lines of a script: each ends with a line feed, the last one perhaps with the text
abbrev pub script_lines : List ℕ → List (List ℕ)
script_lines text = map without_end (lines_of text)

-- the line with this number, from 1
abbrev pub line_at : List (List ℕ) → ℕ → List ℕ
line_at lines k = slice_index_or ([] ∷ lines) k []

-- Line k stands in the block that line j begins: no line between them ends it.
pub record IsInBlock (lines : List (List ℕ)) (j k : ℕ) : Type 0 where
  pub before : j < k
  pub begins : SpellsTogether (line_at lines j)
  pub goes_on : (m : ℕ) → j < m → m < k → ¬ SpellsEnd (line_at lines m)

-- line m is a search between two lines
pub record IsSearchBetween (lines : List (List ℕ)) (j k m : ℕ) : Type 0 where
  pub behind : j < m
  pub before : m < k
  pub query : Query
  pub filter : Filter
  pub spelled : SpellsSearch (line_at lines m) query filter

-- so many searches, or more, stand between two lines
pub record AreSearchesBetween (lines : List (List ℕ)) (j k count : ℕ) : Type 0 where
  pub numbers : List ℕ
  pub ascending : AllPairs ◌<◌ numbers
  pub searches : All (IsSearchBetween lines j k) numbers
  pub count_is : length numbers ≡ count

-- the statement is a search
abbrev pub IsSearch : Statement → Type 0
IsSearch s = (query : Query) × (filter : Filter) × (s ≡ statement.Search query filter)

-- the most searches of a block
abbrev pub most_searches : ℕ
most_searches = 8

-- Why a line is bad: it spells nothing; it ends no block, or one without a search; it is the ninth
-- search of a block or a later one, or another statement inside a block; or it begins a block that
-- no later line ends.
pub data IsFaultyLine (lines : List (List ℕ)) (k : ℕ) : Type 0 where
  spells_nothing :
      ¬ IsSkipped (line_at lines k) →
      ¬ SpellsTogether (line_at lines k) →
      ¬ SpellsEnd (line_at lines k) →
      ((s : Statement) → ¬ SpellsStatement (line_at lines k) s) →
      IsFaultyLine lines k
  ends_no_block :
      SpellsEnd (line_at lines k) →
      ((j : ℕ) → ¬ IsInBlock lines j k) →
      IsFaultyLine lines k
  ends_empty_block : (j : ℕ) →
      SpellsEnd (line_at lines k) →
      IsInBlock lines j k →
      ((m : ℕ) → ¬ IsSearchBetween lines j k m) →
      IsFaultyLine lines k
  one_search_too_many : (j : ℕ) (query : Query) (filter : Filter) →
      SpellsSearch (line_at lines k) query filter →
      IsInBlock lines j k →
      AreSearchesBetween lines j k most_searches →
      IsFaultyLine lines k
  block_inside_block : (j : ℕ) →
      SpellsTogether (line_at lines k) →
      IsInBlock lines j k →
      IsFaultyLine lines k
  statement_inside_block : (j : ℕ) (s : Statement) →
      SpellsStatement (line_at lines k) s →
      ¬ IsSearch s →
      IsInBlock lines j k →
      IsFaultyLine lines k
  never_ended :
      SpellsTogether (line_at lines k) →
      ((m : ℕ) → k < m → ¬ SpellsEnd (line_at lines m)) →
      IsFaultyLine lines k

-- a bad line, by its number from 1
pub record IsBadLine (lines : List (List ℕ)) (k : ℕ) : Type 0 where
  pub from_one : 1 ≤ k
  pub to_last : k ≤ length lines
  pub faulty : IsFaultyLine lines k

-- the least bad line
pub record IsLeastBadLine (lines : List (List ℕ)) (k : ℕ) : Type 0 where
  pub bad : IsBadLine lines k
  pub least : (j : ℕ) → j < k → ¬ IsBadLine lines j

-- the lines are in the grammar: none is bad
abbrev pub AreGood : List (List ℕ) → Type 0
AreGood lines = (k : ℕ) → ¬ IsBadLine lines k

-- the search is that of its line, inside the block that line j begins
pub record IsSearchOf (lines : List (List ℕ)) (j : ℕ) (s : PlacedSearch) : Type 0 where
  pub there : s.line ≤ length lines
  pub within : IsInBlock lines j s.line
  pub spelled : SpellsSearch (line_at lines s.line) s.query s.filter

-- These are the searches of the block that line j begins, in order of their lines.
pub record AreSearchesOf (lines : List (List ℕ)) (j : ℕ)
    (searches : List PlacedSearch) : Type 0 where
  pub ordered : AllPairs (λ (a : PlacedSearch) (b : PlacedSearch). a.line < b.line) searches
  pub sound : All (IsSearchOf lines j) searches
  pub complete : (m : ℕ) (query : Query) (filter : Filter) → m ≤ length lines →
      IsInBlock lines j m → SpellsSearch (line_at lines m) query filter →
      Any (λ (s : PlacedSearch). s.line ≡ m) searches

-- the line spells the statement by itself, outside blocks
pub record StandsAlone (lines : List (List ℕ)) (k : ℕ) (s : Statement) : Type 0 where
  pub spelled : SpellsStatement (line_at lines k) s
  pub outside : (j : ℕ) → ¬ IsInBlock lines j k

-- The statement is that of line k: it stands there alone, or it is the block that begins there.
abbrev pub IsStatementAt : List (List ℕ) → ℕ → Statement → Type 0
IsStatementAt lines k (statement.Import path) = StandsAlone lines k (statement.Import path)
IsStatementAt lines k (statement.Make games start) =
    StandsAlone lines k (statement.Make games start)
IsStatementAt lines k statement.Wait = StandsAlone lines k statement.Wait
IsStatementAt lines k (statement.Until number) = StandsAlone lines k (statement.Until number)
IsStatementAt lines k (statement.Search query filter) =
    StandsAlone lines k (statement.Search query filter)
IsStatementAt lines k (statement.Together searches) = SpellsTogether (line_at lines k)
    × AreSearchesOf lines k searches
IsStatementAt lines k (statement.Kept query) = StandsAlone lines k (statement.Kept query)
IsStatementAt lines k (statement.Signature pattern) =
    StandsAlone lines k (statement.Signature pattern)
IsStatementAt lines k statement.Players = StandsAlone lines k statement.Players
IsStatementAt lines k statement.Doubles = StandsAlone lines k statement.Doubles
IsStatementAt lines k (statement.Game number) = StandsAlone lines k (statement.Game number)
IsStatementAt lines k (statement.Opening shape depth least) =
    StandsAlone lines k (statement.Opening shape depth least)
IsStatementAt lines k statement.Report = StandsAlone lines k statement.Report
IsStatementAt lines k (statement.Retire name) = StandsAlone lines k (statement.Retire name)
IsStatementAt lines k (statement.Watch name query filter) =
    StandsAlone lines k (statement.Watch name query filter)
IsStatementAt lines k (statement.Watched name) = StandsAlone lines k (statement.Watched name)

-- a statement stands at this line
pub record IsPlacedAt (lines : List (List ℕ)) (p : Placed) : Type 0 where
  pub from_one : 1 ≤ p.line
  pub to_last : p.line ≤ length lines
  pub stands : IsStatementAt lines p.line p.statement

-- The lines are in the grammar, and these are their statements, in order of their lines.
pub record AreStatements (lines : List (List ℕ)) (placed : List Placed) : Type 0 where
  pub good : AreGood lines
  pub ordered : AllPairs (λ (a : Placed) (b : Placed). a.line < b.line) placed
  pub sound : All (IsPlacedAt lines) placed
  pub complete : (k : ℕ) (s : Statement) → 1 ≤ k → k ≤ length lines → IsStatementAt lines k s →
      Any (λ (p : Placed). p.line ≡ k) placed
