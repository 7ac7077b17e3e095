-- How far a script is read: for the reader's private functions.
use Rattle.std.specs.Prelude.{◌≡◌, ℕ, ◌<◌, ◌≤◌, List, length, All, AllPairs, Any}
use Rattle.query_script.specs.declared.line.Line.{Line}
use Rattle.query_script.specs.declared.line.Line.TheVariants as line
use Rattle.query_script.specs.declared.progress.Progress.{Progress}
use Rattle.query_script.specs.declared.progress.Progress.TheVariants as progress
use Rattle.query_script.specs.declared.statement.Placed.{Placed}
use Rattle.query_script.specs.declared.statement.PlacedSearch.{PlacedSearch}
use Rattle.query_script.specs.declared.statement.Statement.{Statement}
use Rattle.query_script.specs.Lines.{IsLine}
use Rattle.query_script.specs.Script.{IsBadLine, IsFaultyLine, IsPlacedAt, IsSearchOf, IsInBlock, IsStatementAt, line_at, most_searches}
use Rattle.query_script.specs.Statements.{SpellsEnd, SpellsSearch}

-- a statement stands at a line before line k
pub record IsPlacedBefore (lines : List (List ℕ)) (k : ℕ) (p : Placed) : Type 0 where
  pub before : p.line < k
  pub placed : IsPlacedAt lines p

-- The lines before line k are read: none of them is bad, they leave no block open, and these are
-- their statements.
pub record AreReadBefore (lines : List (List ℕ)) (k : ℕ) (placed : List Placed) : Type 0 where
  pub from_one : 1 ≤ k
  pub outside : (j : ℕ) → ¬ IsInBlock lines j k
  pub good : (m : ℕ) → m < k → ¬ IsBadLine lines m
  pub ordered : AllPairs (λ (a : Placed) (b : Placed). a.line < b.line) placed
  pub sound : All (IsPlacedBefore lines k) placed
  pub complete : (m : ℕ) (s : Statement) → 1 ≤ m → m < k → IsStatementAt lines m s →
      Any (λ (p : Placed). p.line ≡ m) placed

-- Line j begins a block that goes on before line k, and the lines before it are read.
pub record IsBlockBegun (lines : List (List ℕ)) (j k : ℕ) (placed : List Placed) : Type 0 where
  pub read : AreReadBefore lines j placed
  pub to_last : j ≤ length lines
  pub begins : IsLine (line_at lines j) line.Together
  pub before : j < k
  pub goes_on : (m : ℕ) → j < m → m < k → ¬ SpellsEnd (line_at lines m)

-- the search is one of the block that line j begins, before line k
pub record IsSearchBefore (lines : List (List ℕ)) (j k : ℕ) (s : PlacedSearch) : Type 0 where
  pub before : s.line < k
  pub search : IsSearchOf lines j s

-- The block that a first line begins goes on before line k, no line behind the first one is bad so
-- far, and these are its searches.
pub record IsReadInside (lines : List (List ℕ)) (k : ℕ) (placed : List Placed)
    (first : ℕ) (searches : List PlacedSearch) : Type 0 where
  pub begun : IsBlockBegun lines first k placed
  pub good : (m : ℕ) → first < m → m < k → ¬ IsFaultyLine lines m
  pub few : length searches ≤ most_searches
  pub ordered : AllPairs (λ (a : PlacedSearch) (b : PlacedSearch). a.line < b.line) searches
  pub sound : All (IsSearchBefore lines first k) searches
  pub complete : (m : ℕ) →
      first < m →
      m < k →
      ((query : _) × (filter : _) × SpellsSearch (line_at lines m) query filter) →
      Any (λ (s : PlacedSearch). s.line ≡ m) searches

-- The block that line j begins goes on before line k, and one of its lines is bad: the least one
-- behind line j.
pub record IsBroken (lines : List (List ℕ)) (k : ℕ) (placed : List Placed)
    (j bad : ℕ) : Type 0 where
  pub begun : IsBlockBegun lines j k placed
  pub behind : j < bad
  pub to_last : bad ≤ length lines
  pub good : (m : ℕ) → j < m → m < bad → ¬ IsFaultyLine lines m
  pub faulty : IsFaultyLine lines bad

-- The lines before line k are read, and reading stands there.
abbrev pub IsReadBefore : List (List ℕ) → ℕ → List Placed → Progress → Type 0
IsReadBefore lines k placed progress.Outside = AreReadBefore lines k placed
IsReadBefore lines k placed (progress.Inside block) =
    IsReadInside lines k placed block.line block.searches.items
IsReadBefore lines k placed (progress.Broken begun bad) = IsBroken lines k placed begun bad

-- line k of the script is this
pub record IsLineAt (lines : List (List ℕ)) (k : ℕ) (is : Line) : Type 0 where
  pub to_last : k ≤ length lines
  pub line : IsLine (line_at lines k) is
