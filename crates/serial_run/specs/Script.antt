-- The script of a run: one in the grammar that isn't too long, or its least bad line.
use Rattle.std.specs.Prelude.{◌≡◌, ◌+◌, ◌<◌, ◌≤◌, ℕ, List, ◌++◌, length, slice_index}
use Rattle.bstr.specs.Text.{lines_of}
use Rattle.query_script.specs.declared.statement.Placed.{Placed}
use Rattle.query_script.specs.Bytes.{line_feed}
use Rattle.query_script.specs.Script.{AreGood, AreStatements, IsLeastBadLine, script_lines}

-- The script is too long, and this is what stands before the line that holds the byte past the
-- greatest length: whole lines, and from there to that byte no line ends.
pub record IsCut (text kept : List ℕ) : Type 0 where
  pub too_long : 1048576 < length text
  pub rest : List ℕ
  pub split : text ≡ kept ++ rest
  pub within : length kept ≤ 1048576
  pub whole_lines : (i : ℕ) → i + 1 ≡ length kept → slice_index text i ≡ line_feed
  pub one_line : (i : ℕ) → length kept ≤ i → i < 1048576 → ¬ (slice_index text i ≡ line_feed)

-- Why a script is bad, and its line: the least bad one; in a script that is too long the least bad
-- one of what stands before the line that holds the byte past the greatest length, or that line
-- where none before it is bad.
pub data IsBad (text : List ℕ) (k : ℕ) : Type 0 where
  not_in_grammar : length text ≤ 1048576 → IsLeastBadLine (script_lines text) k → IsBad text k
  bad_before_cut : (kept : List ℕ) → IsCut text kept → IsLeastBadLine (script_lines kept) k →
      IsBad text k
  too_long : (kept : List ℕ) → IsCut text kept → AreGood (script_lines kept) →
      k ≡ length (lines_of kept) + 1 → IsBad text k

-- the script is in the grammar, and it isn't too long
abbrev pub IsInGrammar : List ℕ → Type 0
IsInGrammar text = (length text ≤ 1048576) × AreGood (script_lines text)

-- the script isn't too long, and these are its statements
abbrev pub IsScript : List ℕ → List Placed → Type 0
IsScript text placed = (length text ≤ 1048576) × AreStatements (script_lines text) placed
