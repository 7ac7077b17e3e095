-- The words of a search behind its first one: options in one order, each at most once, and a
-- pattern.
use Rattle.std.specs.Prelude.{◌≡◌, ℕ, ◌≤◌, Bool, true, false, List, [], ◌∷◌, ◌++◌, Option, Some, None, codes}
use Rattle.kb_geometry.specs.declared.shape.Shape.{Shape}
use Rattle.kb_geometry.specs.declared.shape.Rect.{Rect}
use Rattle.kb_geometry.specs.Board.{cols_of, rows_of}
use Rattle.pattern_images.specs.declared.pattern.Pattern.{Pattern}
use Rattle.pattern_images.specs.declared.query.Query.{Query}
use Rattle.pattern_images.specs.Pattern.{grid_of}
use Rattle.pattern_syntax.specs.Text as pattern
use Rattle.query_script.specs.declared.word.Word.{Word}
use Rattle.query_script.specs.Words.{IsNumber, bare}

-- an option of one word, which stands there or not
abbrev pub IsFlag : List ℕ → Bool → List Word → Type 0
IsFlag name true words = words ≡ bare name ∷ []
IsFlag name false words = words ≡ []

-- a number of columns or rows of a board: 1 to 52
abbrev pub IsSideNumber : Word → ℕ → Type 0
IsSideNumber w n = IsNumber w n × (1 ≤ n) × (n ≤ 52)

-- `board C R`, or nothing
abbrev pub IsBoardOption : Option Shape → List Word → Type 0
IsBoardOption None words = words ≡ []
IsBoardOption (Some shape) words =
    (c : Word) × (r : Word) × (words ≡ bare (codes "board") ∷ c ∷ r ∷ []) ×
    IsSideNumber c (cols_of shape) × IsSideNumber r (rows_of shape)

-- the greatest move number
abbrev pub most_moves : ℕ
most_moves = 65536

-- `moves A B`, or nothing, and then from 0 to the greatest move number
pub data AreMoves (from to : ℕ) : List Word → Type 0 where
  not_given : from ≡ 0 → to ≡ most_moves → AreMoves from to []
  given : (a b : Word) → IsNumber a from → IsNumber b to → from ≤ to → to ≤ most_moves →
      AreMoves from to (bare (codes "moves") ∷ a ∷ b ∷ [])

-- a column or row of a board: 0 to 51
abbrev pub IsCoordinateWord : Word → ℕ → Type 0
IsCoordinateWord w n = IsNumber w n × (n ≤ 51)

-- the rectangle of these corners
abbrev pub rect : ℕ → ℕ → ℕ → ℕ → Rect
rect x0 y0 x1 y1 = record { x0 = x0; y0 = y0; x1 = x1; y1 = y1 }

-- `at X Y`, which is the rectangle of that one point, `at X Y to X1 Y1`, or nothing
pub data IsAt : Option Rect → List Word → Type 0 where
  not_given : IsAt None []
  one_point : {x y : ℕ} (a b : Word) → IsCoordinateWord a x → IsCoordinateWord b y →
      IsAt (Some (rect x y x y)) (bare (codes "at") ∷ a ∷ b ∷ [])
  rectangle : {x0 y0 x1 y1 : ℕ} (a b c d : Word) →
      IsCoordinateWord a x0 →
      IsCoordinateWord b y0 →
      IsCoordinateWord c x1 →
      IsCoordinateWord d y1 →
      x0 ≤ x1 →
      y0 ≤ y1 →
      IsAt (Some (rect x0 y0 x1 y1)) (bare (codes "at") ∷ a ∷ b ∷ bare (codes "to") ∷ c ∷ d ∷ [])

-- the word spells the pattern
abbrev pub IsPattern : Pattern → List Word → Type 0
IsPattern spelled words =
    (text : List ℕ) × (words ≡ bare text ∷ []) × pattern.SpellsPattern text (grid_of spelled)

-- The words spell the query: its options in this order, and then its pattern.
pub record IsBody (words : List Word) (query : Query) : Type 0 where
  pub same : List Word
  pub fixed : List Word
  pub main : List Word
  pub board : List Word
  pub moves : List Word
  pub at : List Word
  pub pattern : List Word
  pub in_order : words ≡ same ++ (fixed ++ (main ++ (board ++ (moves ++ (at ++ pattern)))))
  pub same_is : IsFlag (codes "same") query.same same
  pub fixed_is : IsFlag (codes "fixed") query.fixed fixed
  pub main_is : IsFlag (codes "main") query.main main
  pub board_is : IsBoardOption query.board board
  pub moves_are : AreMoves query.from_move query.to_move moves
  pub at_is : IsAt query.at at
  pub pattern_is : IsPattern query.pattern pattern

-- The words spell the query of a count of kept games: the options of a search but `main` and
-- `moves`, in the same order, and then its pattern. It looks at all nodes.
pub record IsKeptBody (words : List Word) (query : Query) : Type 0 where
  pub same : List Word
  pub fixed : List Word
  pub board : List Word
  pub at : List Word
  pub pattern : List Word
  pub in_order : words ≡ same ++ (fixed ++ (board ++ (at ++ pattern)))
  pub same_is : IsFlag (codes "same") query.same same
  pub fixed_is : IsFlag (codes "fixed") query.fixed fixed
  pub board_is : IsBoardOption query.board board
  pub at_is : IsAt query.at at
  pub pattern_is : IsPattern query.pattern pattern
  pub all_lines : query.main ≡ false
  pub from_first : query.from_move ≡ 0
  pub to_last : query.to_move ≡ most_moves
