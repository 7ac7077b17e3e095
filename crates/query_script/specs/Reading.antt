-- Definitions for the private functions that read a line.
use Rattle.std.specs.Prelude.{◌≡◌, ◌≢◌, ◌||◌, ◌&&◌, ◌==◌, ℕ, ◌≤◌, List, [], ◌∷◌, ◌++◌, codes, if◌then◌else◌}
use Rattle.pattern_images.specs.declared.query.Query.{Query}
use Rattle.query_script.specs.declared.search_words.Moves.{Moves}
use Rattle.query_script.specs.declared.word.Word.{Word}
use Rattle.query_script.specs.declared.word.Word.TheVariants as word
use Rattle.query_script.specs.Bytes.{letter_a, letter_b, letter_f, letter_m, letter_s, letter_t}
use Rattle.query_script.specs.Search.{AreMoves, IsAt, IsBoardOption, IsCoordinateWord, IsFlag, IsPattern}
use Rattle.query_script.specs.Words.{AreWords, IsBareByte, IsBlank, bare}

-- the text begins with no space and no tab, or it is empty
abbrev pub BeginsWithNoBlank : List ℕ → Type 0
BeginsWithNoBlank text = (byte : ℕ) (rest : List ℕ) → text ≡ byte ∷ rest → ¬ IsBlank byte

-- the text begins with no byte of a bare word, or it is empty
abbrev pub BeginsWithNoBareByte : List ℕ → Type 0
BeginsWithNoBareByte text = (byte : ℕ) (rest : List ℕ) → text ≡ byte ∷ rest → ¬ IsBareByte byte

-- The words of the text are this one and those of what stands behind it.
pub record BeginsWithWord (text : List ℕ) (w : Word) (behind : List ℕ) : Type 0 where
  pub more : (words : List Word) → AreWords behind words → AreWords text (w ∷ words)
  pub only : (words : List Word) → AreWords text words →
      (others : List Word) × (words ≡ w ∷ others) × AreWords behind others

-- The words of the line are these and those of the rest.
pub record AreWordsTo (line : List ℕ) (words : List Word) (rest : List ℕ) : Type 0 where
  pub more : (others : List Word) → AreWords rest others → AreWords line (words ++ others)
  pub only : (all : List Word) → AreWords line all →
      (others : List Word) × (all ≡ words ++ others) × AreWords rest others

-- the words don't begin with the bare word of this name
abbrev pub BeginsOtherwise : List ℕ → List Word → Type 0
BeginsOtherwise name words = (more : List Word) → words ≢ bare name ∷ more

-- the words begin with the bare word `where`
abbrev pub BeginsWithWhere : List Word → Type 0
BeginsWithWhere words = (rest : List Word) × (words ≡ bare (codes "where") ∷ rest)

-- The words are some that say this value, and others behind them.
pub record AreParted {A : Type 0} (Says : A → List Word → Type 0) (words : List Word) (value : A)
    (rest : List Word) : Type 0 where
  pub own : List Word
  pub split : words ≡ own ++ rest
  pub says : Says value own

-- `moves A B`, or nothing, of the move numbers from the first to the second
abbrev pub AreMovesOf : Moves → List Word → Type 0
AreMovesOf moves words = AreMoves moves.from moves.to words

-- the words begin with the column and the row of a point
pub record IsPointAt (words : List Word) (x y : ℕ) (rest : List Word) : Type 0 where
  pub column : Word
  pub row : Word
  pub split : words ≡ column ∷ row ∷ rest
  pub column_is : IsCoordinateWord column x
  pub row_is : IsCoordinateWord row y

-- ---- the words of a search from one of its options on

abbrev pub AreFromAt : List Word → Query → Type 0
AreFromAt words query = (rest : List Word) × AreParted IsAt words query.at rest
    × IsPattern query.pattern rest

abbrev pub AreFromMoves : List Word → Query → Type 0
AreFromMoves words query = (rest : List Word)
    × AreParted AreMovesOf words (record { from = query.from_move; to = query.to_move }) rest
    × AreFromAt rest query

abbrev pub AreFromBoard : List Word → Query → Type 0
AreFromBoard words query = (rest : List Word) × AreParted IsBoardOption words query.board rest
    × AreFromMoves rest query

abbrev pub AreFromMain : List Word → Query → Type 0
AreFromMain words query = (rest : List Word)
    × AreParted (IsFlag (codes "main")) words query.main rest × AreFromBoard rest query

abbrev pub AreFromFixed : List Word → Query → Type 0
AreFromFixed words query = (rest : List Word)
    × AreParted (IsFlag (codes "fixed")) words query.fixed rest × AreFromMain rest query

abbrev pub AreFromSame : List Word → Query → Type 0
AreFromSame words query = (rest : List Word)
    × AreParted (IsFlag (codes "same")) words query.same rest × AreFromFixed rest query

-- ---- the words of a count of kept games from one of its options on

abbrev pub AreKeptFromBoard : List Word → Query → Type 0
AreKeptFromBoard words query = (rest : List Word) × AreParted IsBoardOption words query.board rest
    × AreFromAt rest query

abbrev pub AreKeptFromFixed : List Word → Query → Type 0
AreKeptFromFixed words query = (rest : List Word)
    × AreParted (IsFlag (codes "fixed")) words query.fixed rest × AreKeptFromBoard rest query

abbrev pub AreKeptFromSame : List Word → Query → Type 0
AreKeptFromSame words query = (rest : List Word)
    × AreParted (IsFlag (codes "same")) words query.same rest × AreKeptFromFixed rest query

-- Which option a bare word begins, by its place in their order, and 6 where it begins none. It
-- tells the names of the options apart, and `to` counts as `at`; other words may have any place.
abbrev pub place_of_option : List ℕ → ℕ
place_of_option [] = 6
place_of_option (a ∷ []) = 6
place_of_option (a ∷ b ∷ rest) =
    if a == letter_s then 0
    else (if a == letter_f then 1
    else (if (a == letter_m) && (b == letter_a) then 2
    else (if a == letter_b then 3
    else (if a == letter_m then 4
    else (if (a == letter_a) || (a == letter_t) then 5
    else 6)))))

abbrev pub place_of_word : Word → ℕ
place_of_word (word.Bare bytes) = place_of_option bytes
place_of_word (word.Quoted bytes) = 6

-- the words begin with none of the first so many options
abbrev pub BeginsFrom : ℕ → List Word → Type 0
BeginsFrom k [] = Unit {0}
BeginsFrom k (w ∷ words) = k ≤ place_of_word w
