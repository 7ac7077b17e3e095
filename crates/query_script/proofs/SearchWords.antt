-- The options of a search: what their words say, and that they say one thing only.
use Rattle.std.proofs.Common.{◌≡◌, ◌≤◌, ◌++◌, ◌∙◌, ℕ, List, [], ◌∷◌, Option, Some, None, codes, refl, sym, ap, subst, arith}
use Rattle.kb_geometry.specs.declared.shape.Rect.{Rect}
use Rattle.kb_geometry.specs.declared.shape.Shape.{Shape}
use Rattle.kb_geometry.specs.Board.{cols_of, rows_of}
use Rattle.kb_geometry.proofs.Shapes.{shape_same}
use Rattle.query_script.specs.declared.search_words.Moves.{Moves}
use Rattle.query_script.specs.declared.word.Word.{Word}
use Rattle.query_script.specs.Reading.{AreMovesOf, AreParted, BeginsOtherwise, IsPointAt}
use Rattle.query_script.specs.Search.{IsAt, IsBoardOption, most_moves, rect}
use Rattle.query_script.specs.Search.IsAt.{not_given as no_place, one_point, rectangle}
use Rattle.query_script.specs.Search.AreMoves.{given, not_given as no_moves}
use Rattle.query_script.specs.Words.{IsNumber, bare}
use Rattle.query_script.proofs.Numbers.{IsNumber-once}

-- ---- the board

-- a board
pub board-present : (words behind rest : List Word) (c r : Word) (shape : Shape) →
    words ≡ bare (codes "board") ∷ behind → behind ≡ c ∷ r ∷ rest →
    IsNumber c (cols_of shape) → IsNumber r (rows_of shape) →
    AreParted IsBoardOption words (Some shape) rest
board-present words behind rest c r shape name is cols rows = record {
  own = bare (codes "board") ∷ c ∷ r ∷ [];
  split = name ∙ ap (λ l. bare (codes "board") ∷ l) is;
  says = (
    c,
    r,
    refl,
    (cols, shape.in_range.0.0, shape.in_range.0.1),
    (rows, shape.in_range.1.0, shape.in_range.1.1),
  );
}

-- what a board is where the words begin with its name
pub board_there : (words behind : List Word) (board : Option Shape) (rest : List Word) → words ≡ bare (codes "board") ∷ behind → AreParted IsBoardOption words board rest → BeginsOtherwise (codes "board") rest →
    (shape : Shape) × (c r : Word) × (board ≡ Some shape) × (behind ≡ c ∷ r ∷ rest) × IsNumber c (cols_of shape) × IsNumber r (rows_of shape)
board_there words behind None rest name parted otherwise =
    absurd (otherwise behind (sym (parted.split ∙ ap (λ l. l ++ rest) parted.says) ∙ name))
board_there words behind (Some shape) rest name parted otherwise =
    let (c, r, is, cols, rows) = parted.says in
    let both : bare (codes "board") ∷ behind ≡ bare (codes "board") ∷ c ∷ r ∷ rest = sym name ∙ parted.split ∙ ap (λ l. l ++ rest) is in
    let behind_is : behind ≡ c ∷ r ∷ rest = cc in
    (shape, c, r, refl, behind_is, cols.0, rows.0)

pub board-only : (words behind rest : List Word) (c r : Word) (shape : Shape) → words ≡ bare (codes "board") ∷ behind → behind ≡ c ∷ r ∷ rest → IsNumber c (cols_of shape) → IsNumber r (rows_of shape) →
    (board : Option Shape) (others : List Word) → AreParted IsBoardOption words board others → BeginsOtherwise (codes "board") others → (board ≡ Some shape) × (others ≡ rest)
board-only words behind rest c r shape name is cols rows board others parted otherwise =
    let (found, a, b, some, behind_is, cols', rows') = board_there words behind board others name parted otherwise in
    let both : c ∷ r ∷ rest ≡ a ∷ b ∷ others = sym is ∙ behind_is in
    let first : a ≡ c = cc in
    let second : b ≡ r = cc in
    let rests : others ≡ rest = cc in
    let same = shape_same found shape (IsNumber-once c _ _ (subst (λ w. IsNumber w (cols_of found)) first cols') cols) (IsNumber-once r _ _ (subst (λ w. IsNumber w (rows_of found)) second rows') rows) in
    (some ∙ ap Some same, rests)

pub board-no_shape : (words behind rest : List Word) (c r : Word) → words ≡ bare (codes "board") ∷ behind → behind ≡ c ∷ r ∷ rest → ((shape : Shape) → IsNumber c (cols_of shape) → ¬ IsNumber r (rows_of shape)) →
    (board : Option Shape) (others : List Word) → AreParted IsBoardOption words board others → ¬ BeginsOtherwise (codes "board") others
board-no_shape words behind rest c r name is without board others parted otherwise =
    let (found, a, b, some, behind_is, cols, rows) = board_there words behind board others name parted otherwise in
    let both : c ∷ r ∷ rest ≡ a ∷ b ∷ others = sym is ∙ behind_is in
    let first : a ≡ c = cc in
    let second : b ≡ r = cc in
    without found (subst (λ w. IsNumber w (cols_of found)) first cols) (subst (λ w. IsNumber w (rows_of found)) second rows)

-- ---- the move numbers

-- all move numbers
pub moves-absent : (words : List Word) → AreParted AreMovesOf words (record { from = 0; to = most_moves }) words
moves-absent words = record { own = []; split = refl; says = no_moves refl refl }

-- some move numbers
pub moves-present : (words behind rest : List Word) (a b : Word) (m : Moves) → words ≡ bare (codes "moves") ∷ behind → behind ≡ a ∷ b ∷ rest → IsNumber a m.from → IsNumber b m.to → m.from ≤ m.to → m.to ≤ most_moves → AreParted AreMovesOf words m rest
moves-present words behind rest a b m name is from to ordered most = record {
  own = bare (codes "moves") ∷ a ∷ b ∷ [];
  split = name ∙ ap (λ l. bare (codes "moves") ∷ l) is;
  says = given a b from to ordered most;
}

-- ---- the place

-- no place
pub at-absent : (words : List Word) → AreParted IsAt words None words
at-absent words = record { own = []; split = refl; says = no_place }

-- one point
pub at-one_point : (words behind rest : List Word) (x y : ℕ) → words ≡ bare (codes "at") ∷ behind → IsPointAt behind x y rest → AreParted IsAt words (Some (rect x y x y)) rest
at-one_point words behind rest x y name point = record {
  own = bare (codes "at") ∷ point.column ∷ point.row ∷ [];
  split = name ∙ ap (λ l. bare (codes "at") ∷ l) point.split;
  says = one_point point.column point.row point.column_is point.row_is;
}

-- a rectangle
pub at-rectangle : (words behind behind_first behind_to rest : List Word) (x y x1 y1 : ℕ) → words ≡ bare (codes "at") ∷ behind → IsPointAt behind x y behind_first → behind_first ≡ bare (codes "to") ∷ behind_to → IsPointAt behind_to x1 y1 rest → x ≤ x1 → y ≤ y1 → AreParted IsAt words (Some (rect x y x1 y1)) rest
at-rectangle words behind behind_first behind_to rest x y x1 y1 name first to last wide high = record {
  own = bare (codes "at") ∷ first.column ∷ first.row ∷ bare (codes "to") ∷ last.column ∷ last.row ∷ [];
  split = name ∙ ap (λ l. bare (codes "at") ∷ l) (first.split ∙ ap (λ l. first.column ∷ first.row ∷ l) (to ∙ ap (λ l. bare (codes "to") ∷ l) last.split));
  says = rectangle first.column first.row last.column last.row first.column_is first.row_is last.column_is last.row_is wide high;
}

-- what a place is where the words begin with its name
pub data IsPlaceThere (behind : List Word) (at : Option Rect) (rest : List Word) : Type 0 where
  point_there : (x y : ℕ) → at ≡ Some (rect x y x y) → IsPointAt behind x y rest → IsPlaceThere behind at rest
  rectangle_there : (x y x1 y1 : ℕ) (behind_to : List Word) → at ≡ Some (rect x y x1 y1) → IsPointAt behind x y (bare (codes "to") ∷ behind_to) → IsPointAt behind_to x1 y1 rest → x ≤ x1 → y ≤ y1 → IsPlaceThere behind at rest

pub place_there : (words behind own : List Word) (at : Option Rect) (rest : List Word) → words ≡ bare (codes "at") ∷ behind → words ≡ own ++ rest → IsAt at own → BeginsOtherwise (codes "at") rest → IsPlaceThere behind at rest
place_there words behind _ _ rest name split no_place otherwise = absurd (otherwise behind (sym split ∙ name))
place_there words behind _ _ rest name split (one_point {x = x} {y = y} a b at_x at_y) otherwise =
    let both : bare (codes "at") ∷ behind ≡ bare (codes "at") ∷ a ∷ b ∷ rest = sym name ∙ split in
    let is : behind ≡ a ∷ b ∷ rest = cc in
    point_there x y refl (record { column = a; row = b; split = is; column_is = at_x; row_is = at_y })
place_there words behind _ _ rest name split (rectangle {x0 = x0} {y0 = y0} {x1 = x1} {y1 = y1} a b c d at_x at_y at_x1 at_y1 wide high) otherwise =
    let both : bare (codes "at") ∷ behind ≡ bare (codes "at") ∷ a ∷ b ∷ bare (codes "to") ∷ c ∷ d ∷ rest = sym name ∙ split in
    let is : behind ≡ a ∷ b ∷ bare (codes "to") ∷ c ∷ d ∷ rest = cc in
    rectangle_there x0 y0 x1 y1 (c ∷ d ∷ rest) refl (record { column = a; row = b; split = is; column_is = at_x; row_is = at_y })
    (record { column = c; row = d; split = refl; column_is = at_x1; row_is = at_y1 }) wide high

-- the words begin with one point only
pub IsPointAt-once : (words : List Word) (x y : ℕ) (rest : List Word) (x1 y1 : ℕ) (others : List Word) → IsPointAt words x y rest → IsPointAt words x1 y1 others → (x ≡ x1) × (y ≡ y1) × (rest ≡ others)
IsPointAt-once words x y rest x1 y1 others one other =
    let both : one.column ∷ one.row ∷ rest ≡ other.column ∷ other.row ∷ others = sym one.split ∙ other.split in
    let columns : one.column ≡ other.column = cc in
    let rows : one.row ≡ other.row = cc in
    let rests : rest ≡ others = cc in (
      IsNumber-once other.column x x1 (subst (λ w. IsNumber w x) columns one.column_is.0) other.column_is.0,
      IsNumber-once other.row y y1 (subst (λ w. IsNumber w y) rows one.row_is.0) other.row_is.0,
      rests,
    )

-- no point behind the name
pub at-no_point : (words behind : List Word) → words ≡ bare (codes "at") ∷ behind → ((x y : ℕ) (rest : List Word) → ¬ IsPointAt behind x y rest) →
    (at : Option Rect) (rest : List Word) → AreParted IsAt words at rest → ¬ BeginsOtherwise (codes "at") rest
at-no_point words behind name without at rest parted otherwise =
    elim (place_there words behind parted.own at rest name parted.split parted.says otherwise) [
      | point_there x y is point ↦ without x y rest point
      | rectangle_there x y x1 y1 behind_to is first last wide high ↦ without x y (bare (codes "to") ∷ behind_to) first
    ]

-- where `to` stands behind the first point, a rectangle is meant
pub rectangle_must : (words behind behind_first behind_to : List Word) (x y : ℕ) → words ≡ bare (codes "at") ∷ behind → IsPointAt behind x y behind_first → behind_first ≡ bare (codes "to") ∷ behind_to →
    (at : Option Rect) (rest : List Word) → AreParted IsAt words at rest → BeginsOtherwise (codes "at") rest → BeginsOtherwise (codes "to") rest →
    (x1 y1 : ℕ) × (at ≡ Some (rect x y x1 y1)) × IsPointAt behind_to x1 y1 rest × (x ≤ x1) × (y ≤ y1)
rectangle_must words behind behind_first behind_to x y name first to at rest parted otherwise no_to =
    elim (place_there words behind parted.own at rest name parted.split parted.says otherwise) [
      | point_there x' y' is point ↦
          let (xs, ys, rests) = IsPointAt-once behind x' y' rest x y behind_first point first in
          absurd (no_to behind_to (rests ∙ to))
      | rectangle_there x' y' x1 y1 behind_to' is other last wide high ↦
          let (xs, ys, rests) = IsPointAt-once behind x' y' (bare (codes "to") ∷ behind_to') x y behind_first other first in
          let both : bare (codes "to") ∷ behind_to' ≡ bare (codes "to") ∷ behind_to = rests ∙ to in
          let tos : behind_to' ≡ behind_to = cc in
          let same : rect x' y' x1 y1 ≡ rect x y x1 y1 = cc (xs, ys) in
          (x1, y1, is ∙ ap Some same, subst (λ l. IsPointAt l x1 y1 rest) tos last, omega (arith, xs, wide), omega (arith, ys, high))
    ]

-- no point behind `to`
pub at-no_last : (words behind behind_first behind_to : List Word) (x y : ℕ) → words ≡ bare (codes "at") ∷ behind → IsPointAt behind x y behind_first → behind_first ≡ bare (codes "to") ∷ behind_to → ((x1 y1 : ℕ) (rest : List Word) → ¬ IsPointAt behind_to x1 y1 rest) →
    (at : Option Rect) (rest : List Word) → AreParted IsAt words at rest → BeginsOtherwise (codes "at") rest → ¬ BeginsOtherwise (codes "to") rest
at-no_last words behind behind_first behind_to x y name first to without at rest parted otherwise no_to =
    let (x1, y1, is, last, wide, high) = rectangle_must words behind behind_first behind_to x y name first to at rest parted otherwise no_to in
    without x1 y1 rest last
