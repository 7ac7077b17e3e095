-- What a line spells: nothing that counts, a statement, the beginning of a block, or its end.
use Rattle.std.specs.Prelude.{◌≡◌, ◌⊎◌, ℕ, ◌≤◌, List, [], ◌∷◌, ◌++◌, length, codes, All, IsUtf8}
use Rattle.kb_geometry.specs.declared.shape.Shape.{Shape}
use Rattle.kb_geometry.specs.Board.{cols_of, rows_of}
use Rattle.pattern_images.specs.declared.query.Query.{Query}
use Rattle.info_filter.specs.declared.filter.Filter.{Filter}
use Rattle.dyer_signature.specs.Patterns.{IsSignaturePatternByte}
use Rattle.query_script.specs.declared.statement.Statement.{Statement}
use Rattle.query_script.specs.declared.statement.Statement.TheVariants as statement
use Rattle.query_script.specs.declared.word.Word.{Word}
use Rattle.query_script.specs.Bytes.{number_sign}
use Rattle.query_script.specs.Conditions.{IsFilteredBody, IsNamedBody}
use Rattle.query_script.specs.Search.{IsKeptBody, IsSideNumber, most_moves}
use Rattle.query_script.specs.Words.{AreBlanks, AreWords, IsNumber, bare, bytes_of}

-- the greatest number of a version that a statement may wait for, of a game, and of the entries that an
-- opening must have
abbrev pub most_number : ℕ
most_number = 4294967295

-- the most games that a statement makes
abbrev pub most_games_made : ℕ
most_games_made = 400000

-- the greatest number with which the generator of made games begins
abbrev pub greatest_start : ℕ
greatest_start = 2147483647

-- the bare or quoted word is a path: text in UTF-8, not empty
pub record IsPath (w : Word) (path : List ℕ) : Type 0 where
  pub bytes : bytes_of w ≡ path
  pub some : 1 ≤ length path
  pub utf8 : IsUtf8 path

-- The two words are numbers: how many games are made, which is one at least, and with which number
-- their generator begins.
pub record AreMakeNumbers (w v : Word) (games start : ℕ) : Type 0 where
  pub games_are : IsNumber w games
  pub some : 1 ≤ games
  pub few : games ≤ most_games_made
  pub start_is : IsNumber v start
  pub bound : start ≤ greatest_start

-- a signature pattern: 12 bytes, each a letter, `?` or `*`
pub record IsSignaturePattern (bytes : List ℕ) : Type 0 where
  pub twelve : length bytes ≡ 12
  pub kinds : All IsSignaturePatternByte bytes

-- The four words are numbers: the columns and the rows of a board, the greatest move number of an
-- entry, and how many entries an opening must have, which is one at least.
pub record AreOpeningNumbers (c r d m : Word) (shape : Shape) (depth least : ℕ) : Type 0 where
  pub cols_are : IsSideNumber c (cols_of shape)
  pub rows_are : IsSideNumber r (rows_of shape)
  pub depth_is : IsNumber d depth
  pub depth_bound : depth ≤ most_moves
  pub least_is : IsNumber m least
  pub some : 1 ≤ least
  pub bound : least ≤ most_number

-- the words spell the statement, which takes one line
abbrev pub IsStatement : List Word → Statement → Type 0
IsStatement words (statement.Import path) = (w : Word) × (words ≡ bare (codes "import") ∷ w ∷ [])
    × IsPath w path
IsStatement words (statement.Make games start) = (w : Word) × (v : Word)
    × (words ≡ bare (codes "make") ∷ w ∷ v ∷ []) × AreMakeNumbers w v games start
IsStatement words statement.Wait = words ≡ bare (codes "wait") ∷ []
IsStatement words (statement.Until number) = (w : Word) × (words ≡ bare (codes "until") ∷ w ∷ [])
    × IsNumber w number × (number ≤ most_number)
IsStatement words (statement.Search query filter) = (body : List Word)
    × (words ≡ bare (codes "search") ∷ body) × IsFilteredBody body query filter
IsStatement words (statement.Together searches) = ⊥
IsStatement words (statement.Kept query) = (body : List Word)
    × (words ≡ bare (codes "kept") ∷ body) × IsKeptBody body query
IsStatement words (statement.Signature pattern) =
    (words ≡ bare (codes "signature") ∷ bare pattern.bytes ∷ []) × IsSignaturePattern pattern.bytes
IsStatement words statement.Players = words ≡ bare (codes "players") ∷ []
IsStatement words statement.Doubles = words ≡ bare (codes "doubles") ∷ []
IsStatement words (statement.Game number) = (w : Word) × (words ≡ bare (codes "game") ∷ w ∷ [])
    × IsNumber w number × (number ≤ most_number)
IsStatement words (statement.Opening shape depth least) =
    (c : Word) × (r : Word) × (d : Word) × (m : Word)
    × (words ≡ bare (codes "opening") ∷ c ∷ r ∷ d ∷ m ∷ [])
    × AreOpeningNumbers c r d m shape depth least
IsStatement words statement.Report = words ≡ bare (codes "report") ∷ []
IsStatement words (statement.Retire name) =
    (words ≡ bare (codes "retire") ∷ bare name ∷ []) × IsUtf8 name
IsStatement words (statement.Watch name query filter) = (body : List Word)
    × (words ≡ bare (codes "watch") ∷ body) × IsNamedBody body name query filter
IsStatement words (statement.Watched name) =
    (words ≡ bare (codes "watched") ∷ bare name ∷ []) × IsUtf8 name

-- the line spells the statement
abbrev pub SpellsStatement : List ℕ → Statement → Type 0
SpellsStatement line s = (words : List Word) × AreWords line words × IsStatement words s

-- the line spells a search
abbrev pub SpellsSearch : List ℕ → Query → Filter → Type 0
SpellsSearch line query filter = SpellsStatement line (statement.Search query filter)

-- the line begins a block
abbrev pub SpellsTogether : List ℕ → Type 0
SpellsTogether line = AreWords line (bare (codes "together") ∷ [])

-- the line ends a block
abbrev pub SpellsEnd : List ℕ → Type 0
SpellsEnd line = AreWords line (bare (codes "end") ∷ [])

-- nothing, or a comment, which begins with `#`
abbrev pub IsRemark : List ℕ → Type 0
IsRemark rest = (rest ≡ []) ⊎ ((text : List ℕ) × (rest ≡ number_sign ∷ text))

-- The line is skipped: it is empty, of spaces and tabs alone, or its first other byte is `#`.
pub record IsSkipped (line : List ℕ) : Type 0 where
  pub blanks : List ℕ
  pub rest : List ℕ
  pub split : line ≡ blanks ++ rest
  pub are_blanks : AreBlanks blanks
  pub remark : IsRemark rest
