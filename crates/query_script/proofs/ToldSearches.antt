-- Whether words spell a search can be told, option by option, and they spell one at most.
use Rattle.std.proofs.Common.{◌≡◌, ◌≢◌, ◌⊎◌, ◌≤◌, ◌++◌, ◌∙◌, ℕ, Bool, true, false, List, [], ◌∷◌, Option, Some, None, codes, length, refl, sym, ap, subst, inl, inr, arith}
use Rattle.std.proofs.lemmas.Bool.{cases_eq, cases_lt}
use Rattle.std.proofs.lemmas.Slice.Eq.{bytes_eq-Decides}
use Rattle.std.specs.Char.{digit_value}
use Rattle.std.specs.Str.{bytes_eq}
use Rattle.std.specs.Str.Parse.{AllDigits, digits_value}
use Rattle.kb_geometry.specs.declared.shape.Rect.{Rect}
use Rattle.kb_geometry.specs.declared.shape.Shape.{Shape}
use Rattle.kb_geometry.specs.Board.{cols_of, rows_of}
use Rattle.kb_geometry.specs.Side.{IsSide}
use Rattle.pattern_images.specs.declared.pattern.Pattern.{Pattern}
use Rattle.pattern_images.specs.declared.query.Query.{Query}
use Rattle.pattern_images.specs.Pattern.{grid_of}
use Rattle.pattern_images.proofs.Tellings.{Told}
use Rattle.pattern_syntax.specs.Text.{SpellsPattern}
use Rattle.pattern_syntax.proofs.Reading.{spells_or_fails}
use Rattle.pattern_syntax.proofs.Spelled.{spelled-faultless, spells-one}
use Rattle.query_script.specs.declared.search_words.Moves.{Moves}
use Rattle.query_script.specs.declared.word.Word.{Word}
use Rattle.query_script.specs.declared.word.Word.TheVariants as word
use Rattle.query_script.specs.Reading.{AreFromAt, AreFromBoard, AreFromFixed, AreFromMain, AreFromMoves, AreMovesOf, AreParted, BeginsOtherwise, IsPointAt}
use Rattle.query_script.specs.Search.{AreMoves, IsAt, IsBoardOption, IsBody, IsCoordinateWord, IsFlag, IsPattern, most_moves, rect}
use Rattle.query_script.specs.Search.AreMoves.{given, not_given as no_moves}
use Rattle.query_script.specs.Search.IsAt.{not_given as no_place, one_point, rectangle}
use Rattle.query_script.specs.Words.{IsNumber, bare}
use Rattle.query_script.proofs.Numbers.{IsNumber-once}
use Rattle.query_script.proofs.OnePattern.{pattern_same}
use Rattle.query_script.proofs.SearchBodies.{IsOnly, begins-otherwise, from_at-begins, from_board-begins, from_fixed-begins, from_main-begins, from_moves-begins, from_same, no_board, no_moves_there, no_place_there}
use Rattle.query_script.proofs.PatternWords.{pattern-begins}
use Rattle.query_script.proofs.SearchWords.{IsPlaceThere, IsPointAt-once, at-absent, at-no_last, at-no_point, at-one_point, at-rectangle, board-no_shape, board-only, board-present, moves-absent, moves-present, place_there, point_there, rectangle_must, rectangle_there}

-- ---- words that are told apart

pub same_first : {A : Type 0} (a b : A) (x y : List A) → a ∷ x ≡ b ∷ y → a ≡ b
same_first a b x y e = cc

pub same_rest : {A : Type 0} (a b : A) (x y : List A) → a ∷ x ≡ b ∷ y → x ≡ y
same_rest a b x y e = cc

pub told_text : (a b : List ℕ) → Told (a ≡ b)
told_text [] [] = inl refl
told_text [] (y ∷ ys) = inr (λ e. absurd (cc e))
told_text (x ∷ xs) [] = inr (λ e. absurd (cc e))
told_text (x ∷ xs) (y ∷ ys) = elim (cases_eq x y) [
  | inr other ↦ inr (λ e. other (same_first x y xs ys e))
  | inl first ↦ elim (told_text xs ys) [
    | inr other ↦ inr (λ e. other (same_rest x y xs ys e))
    | inl rest ↦ inl (ap (λ n. n ∷ xs) first ∙ ap (λ l. y ∷ l) rest)
  ]
]

pub same_bare : (a b : List ℕ) → bare a ≡ bare b → a ≡ b
same_bare a b e = cc

-- texts that a test tells apart
pub apart : (a b : List ℕ) → bytes_eq a b ≡ false → a ≢ b
apart a b test e = let both : true ≡ false = sym ((bytes_eq-Decides a b).1 e) ∙ test in absurd (cc both)

-- the words begin with this bare word, or they don't
pub told_name : (name : List ℕ) (words : List Word) → ((rest : List Word) × (words ≡ bare name ∷ rest)) ⊎ BeginsOtherwise name words
told_name name [] = inr (λ more e. absurd (cc e))
told_name name ((word.Quoted bytes) ∷ rest) = inr (λ more e.
    let first : word.Quoted bytes ≡ bare name = same_first (word.Quoted bytes) (bare name) rest more e in absurd (cc first))
told_name name ((word.Bare bytes) ∷ rest) = elim (told_text bytes name) [
  | inl same ↦ inl (rest, ap (λ b. bare b ∷ rest) same)
  | inr other ↦ inr (λ more e. other (same_bare bytes name (same_first (bare bytes) (bare name) rest more e)))
]

-- what stands behind a name
pub behind_name : (name : List ℕ) (words one other : List Word) → words ≡ bare name ∷ one → words ≡ bare name ∷ other → one ≡ other
behind_name name words one other is too = same_rest (bare name) (bare name) one other (sym is ∙ too)

-- two words, or fewer
told_two : (words : List Word) → ((a : Word) × (b : Word) × (rest : List Word) × (words ≡ a ∷ b ∷ rest)) ⊎ ((a b : Word) (rest : List Word) → words ≢ a ∷ b ∷ rest)
told_two [] = inr (λ a b rest e. absurd (cc e))
told_two (w ∷ []) = inr (λ a b rest e. let tail : [] ≡ b ∷ rest = same_rest w a [] (b ∷ rest) e in absurd (cc tail))
told_two (w ∷ v ∷ rest) = inl (w, v, rest, refl)

-- ---- numbers

told_digits : (digits : List ℕ) → Told (AllDigits 10 digits)
told_digits [] = inl tt
told_digits (c ∷ digits) = elim (cases_lt (digit_value c) 10) [
  | inr large ↦ inr (λ h. omega (arith, h.0))
  | inl small ↦ elim (told_digits digits) [ inl all ↦ inl (small, all) | inr never ↦ inr (λ h. never h.1) ]
]

pub told_number : (w : Word) → ((n : ℕ) × IsNumber w n) ⊎ ((n : ℕ) → IsNumber w n → ⊥)
told_number (word.Quoted bytes) = inr (λ n is. let e : word.Quoted bytes ≡ bare is.digits = is.word in absurd (cc e))
told_number (word.Bare digits) = elim (cases_lt 0 (length digits)) [
  | inr none ↦ inr (λ n is. let same = same_bare digits is.digits is.word in omega (arith, ap length same, is.decimal.0))
  | inl some ↦ elim (cases_lt 10 (length digits)) [
    | inl many ↦ inr (λ n is. let same = same_bare digits is.digits is.word in omega (arith, ap length same, is.at_most_ten))
    | inr few ↦ elim (told_digits digits) [
      | inr never ↦ inr (λ n is. let same = same_bare digits is.digits is.word in never (subst (AllDigits 10) (sym same) is.decimal.1))
      | inl all ↦ inl (digits_value 10 digits, record { digits = digits; word = refl; decimal = (some, all); at_most_ten = few; value_is = refl })
    ]
  ]
]

-- a number of at most so much
pub told_up_to : (w : Word) (most : ℕ) → ((n : ℕ) × IsNumber w n × (n ≤ most)) ⊎ ((n : ℕ) → IsNumber w n → n ≤ most → ⊥)
told_up_to w most = elim (told_number w) [
  | inr never ↦ inr (λ n is le. never n is)
  | inl (n, is) ↦ elim (cases_lt most n) [
    | inl large ↦ inr (λ m is_m le. omega (arith, IsNumber-once w n m is is_m))
    | inr le ↦ inl (n, is, le)
  ]
]

pub told_side : (w : Word) → ((n : ℕ) × IsNumber w n × IsSide n) ⊎ ((n : ℕ) → IsNumber w n → IsSide n → ⊥)
told_side w = elim (told_up_to w 52) [
  | inr never ↦ inr (λ n is side. never n is side.1)
  | inl (n, is, le) ↦ elim (cases_lt 0 n) [
    | inr none ↦ inr (λ m is_m side. omega (arith, IsNumber-once w n m is is_m, side.0))
    | inl some ↦ inl (n, is, (some, le))
  ]
]

-- ---- options of one word

-- the words behind an option, whatever the query
pub record HasOption {A : Type 0} (Says : A → List Word → Type 0) (name : List ℕ) (words : List Word) : Type 0 where
  pub value : A
  pub rest : List Word
  pub parted : AreParted Says words value rest
  pub only : IsOnly Says name words value rest

given_flag : (name : List ℕ) (words others : List Word) → AreParted (IsFlag name) words true others → words ≡ bare name ∷ others
given_flag name words others parted = parted.split ∙ ap (λ l. l ++ others) parted.says

no_flag : (name : List ℕ) (words others : List Word) → AreParted (IsFlag name) words false others → words ≡ others
no_flag name words others parted = parted.split ∙ ap (λ l. l ++ others) parted.says

flag_only-there : (name : List ℕ) (words rest : List Word) → words ≡ bare name ∷ rest → IsOnly (IsFlag name) name words true rest
flag_only-there name words rest is true others parted otherwise =
    (refl, behind_name name words others rest (given_flag name words others parted) is)
flag_only-there name words rest is false others parted otherwise =
    absurd (otherwise rest (sym (no_flag name words others parted) ∙ is))

flag_only-absent : (name : List ℕ) (words : List Word) → BeginsOtherwise name words → IsOnly (IsFlag name) name words false words
flag_only-absent name words absent true others parted otherwise = absurd (absent others (given_flag name words others parted))
flag_only-absent name words absent false others parted otherwise = (refl, sym (no_flag name words others parted))

pub flag_in : (name : List ℕ) (words : List Word) → HasOption (IsFlag name) name words
flag_in name words = elim (told_name name words) [
  | inl (rest, is) ↦ record {
    value = true;
    rest = rest;
    parted = record { own = bare name ∷ []; split = is; says = refl };
    only = flag_only-there name words rest is;
  }
  | inr absent ↦ record {
    value = false;
    rest = words;
    parted = record { own = []; split = refl; says = refl };
    only = flag_only-absent name words absent;
  }
]

-- ---- the board

abbrev NoBoard : List Word → Type 0
NoBoard words = (board : Option Shape) (others : List Word) → AreParted IsBoardOption words board others → BeginsOtherwise (codes "board") others → ⊥

board_only-absent : (words : List Word) → BeginsOtherwise (codes "board") words → IsOnly IsBoardOption (codes "board") words None words
board_only-absent words absent None others parted otherwise =
    (refl, sym (parted.split ∙ ap (λ l. l ++ others) parted.says))
board_only-absent words absent (Some shape) others parted otherwise =
    let (c, r, is, cols, rows) = parted.says in
    absurd (absent (c ∷ r ∷ others) (parted.split ∙ ap (λ l. l ++ others) is))

board_behind : (words behind : List Word) → words ≡ bare (codes "board") ∷ behind → HasOption IsBoardOption (codes "board") words ⊎ NoBoard words
board_behind words behind name = elim (told_two behind) [
  | inr fewer ↦ inr (fewer_none fewer)
  | inl (c, r, rest, is) ↦ elim (told_side c) [
    | inr never ↦ inr (board-no_shape words behind rest c r name is (λ shape cols rows. never (cols_of shape) cols shape.in_range.0))
    | inl (cols, cols_is, cols_side) ↦ elim (told_side r) [
      | inr never ↦ inr (board-no_shape words behind rest c r name is (λ shape in_cols in_rows. never (rows_of shape) in_rows shape.in_range.1))
      | inl (rows, rows_is, rows_side) ↦
          let shape : Shape = record { cols = cols; rows = rows; in_range = (cols_side, rows_side) } in
          inl (record {
            value = Some shape;
            rest = rest;
            parted = board-present words behind rest c r shape name is cols_is rows_is;
            only = board-only words behind rest c r shape name is cols_is rows_is;
          })
    ]
  ]
]
  where
    fewer_none : ((a b : Word) (rest : List Word) → behind ≢ a ∷ b ∷ rest) → NoBoard words
    fewer_none fewer None others parted otherwise =
        otherwise behind (sym (parted.split ∙ ap (λ l. l ++ others) parted.says) ∙ name)
    fewer_none fewer (Some shape) others parted otherwise =
        let (c, r, is, cols, rows) = parted.says in
        fewer c r others (behind_name (codes "board") words behind (c ∷ r ∷ others) name (parted.split ∙ ap (λ l. l ++ others) is))

pub told_board_words : (words : List Word) → HasOption IsBoardOption (codes "board") words ⊎ NoBoard words
told_board_words words = elim (told_name (codes "board") words) [
  | inl (behind, name) ↦ board_behind words behind name
  | inr absent ↦ inl (record {
    value = None;
    rest = words;
    parted = record { own = []; split = refl; says = refl };
    only = board_only-absent words absent;
  })
]

-- ---- the move numbers

abbrev NoMoves : List Word → Type 0
NoMoves words = (moves : Moves) (others : List Word) → AreParted AreMovesOf words moves others → BeginsOtherwise (codes "moves") others → ⊥

-- what move numbers are where the words begin with their name
moves_there : (words behind own : List Word) (from to : ℕ) (rest : List Word) → words ≡ bare (codes "moves") ∷ behind → words ≡ own ++ rest →
    AreMoves from to own → BeginsOtherwise (codes "moves") rest →
    (a : Word) × (b : Word) × (behind ≡ a ∷ b ∷ rest) × IsNumber a from × IsNumber b to × (from ≤ to) × (to ≤ most_moves)
moves_there words behind _ from to rest name split (no_moves least most) otherwise = absurd (otherwise behind (sym split ∙ name))
moves_there words behind _ from to rest name split (given a b at_from at_to ordered bound) otherwise =
    (a, b, behind_name (codes "moves") words behind (a ∷ b ∷ rest) name split, at_from, at_to, ordered, bound)

-- and where they don't
moves_absent : (words own : List Word) (from to : ℕ) (rest : List Word) → BeginsOtherwise (codes "moves") words → words ≡ own ++ rest →
    AreMoves from to own → (from ≡ 0) × (to ≡ most_moves) × (rest ≡ words)
moves_absent words _ from to rest absent split (no_moves least most) = (least, most, sym split)
moves_absent words _ from to rest absent split (given a b at_from at_to ordered bound) = absurd (absent (a ∷ b ∷ rest) split)

same_moves : (a b : Moves) → a.from ≡ b.from → a.to ≡ b.to → a ≡ b
same_moves a b from to = ap (λ n. record { from = n; to = a.to }) from ∙ ap (λ n. record { from = b.from; to = n }) to

moves_behind : (words behind : List Word) → words ≡ bare (codes "moves") ∷ behind → HasOption AreMovesOf (codes "moves") words ⊎ NoMoves words
moves_behind words behind name = elim (told_two behind) [
  | inr fewer ↦ inr (λ moves others parted otherwise.
      let (a, b, is, _, _, _, _) = moves_there words behind parted.own moves.from moves.to others name parted.split parted.says otherwise in
      fewer a b others is)
  | inl (a, b, rest, is) ↦ elim (told_up_to b most_moves) [
    | inr never ↦ inr (λ moves others parted otherwise.
        let (c, d, is_too, at_from, at_to, ordered, bound) = moves_there words behind parted.own moves.from moves.to others name parted.split parted.says otherwise in
        let second : d ≡ b = same_first d b others rest (same_rest c a (d ∷ others) (b ∷ rest) (sym is_too ∙ is)) in
        never moves.to (subst (λ w. IsNumber w moves.to) second at_to) bound)
    | inl (to, to_is, bound) ↦ elim (told_up_to a to) [
      | inr never ↦ inr (λ moves others parted otherwise.
          let (c, d, is_too, at_from, at_to, ordered, _) = moves_there words behind parted.own moves.from moves.to others name parted.split parted.says otherwise in
          let first : c ≡ a = same_first c a (d ∷ others) (b ∷ rest) (sym is_too ∙ is) in
          let second : d ≡ b = same_first d b others rest (same_rest c a (d ∷ others) (b ∷ rest) (sym is_too ∙ is)) in
          let tos : moves.to ≡ to = IsNumber-once b moves.to to (subst (λ w. IsNumber w moves.to) second at_to) to_is in
          never moves.from (subst (λ w. IsNumber w moves.from) first at_from) (omega (arith, tos)))
      | inl (from, from_is, ordered) ↦ inl (record {
        value = record { from = from; to = to };
        rest = rest;
        parted = moves-present words behind rest a b (record { from = from; to = to }) name is from_is to_is ordered bound;
        only = λ moves others parted otherwise.
            let (c, d, is_too, at_from, at_to, _, _) = moves_there words behind parted.own moves.from moves.to others name parted.split parted.says otherwise in
            let first : c ≡ a = same_first c a (d ∷ others) (b ∷ rest) (sym is_too ∙ is) in
            let tails : d ∷ others ≡ b ∷ rest = same_rest c a (d ∷ others) (b ∷ rest) (sym is_too ∙ is) in
            let second : d ≡ b = same_first d b others rest tails in (
              same_moves moves (record { from = from; to = to })
                  (IsNumber-once a moves.from from (subst (λ w. IsNumber w moves.from) first at_from) from_is)
                  (IsNumber-once b moves.to to (subst (λ w. IsNumber w moves.to) second at_to) to_is),
              same_rest d b others rest tails,
            );
      })
    ]
  ]
]

told_moves_words : (words : List Word) → HasOption AreMovesOf (codes "moves") words ⊎ NoMoves words
told_moves_words words = elim (told_name (codes "moves") words) [
  | inl (behind, name) ↦ moves_behind words behind name
  | inr absent ↦ inl (record {
    value = record { from = 0; to = most_moves };
    rest = words;
    parted = moves-absent words;
    only = λ moves others parted otherwise.
        let (from, to, rest) = moves_absent words parted.own moves.from moves.to others absent parted.split parted.says in
        (same_moves moves (record { from = 0; to = most_moves }) from to, rest);
  })
]

-- ---- the place

told_coordinate : (w : Word) → ((n : ℕ) × IsCoordinateWord w n) ⊎ ((n : ℕ) → IsCoordinateWord w n → ⊥)
told_coordinate w = elim (told_up_to w 51) [
  | inl (n, is, le) ↦ inl (n, (is, le))
  | inr never ↦ inr (λ n is. never n is.0 is.1)
]

-- the words begin with a point, or they don't
pub record HasPoint (words : List Word) : Type 0 where
  pub x : ℕ
  pub y : ℕ
  pub rest : List Word
  pub point : IsPointAt words x y rest

abbrev NoPoint : List Word → Type 0
NoPoint words = (x y : ℕ) (rest : List Word) → IsPointAt words x y rest → ⊥

told_point_at : (words : List Word) → HasPoint words ⊎ NoPoint words
told_point_at words = elim (told_two words) [
  | inr fewer ↦ inr (λ x y rest point. fewer point.column point.row rest point.split)
  | inl (a, b, rest, is) ↦ elim (told_coordinate a) [
    | inr never ↦ inr (λ x y others point.
        let first : point.column ≡ a = same_first point.column a (point.row ∷ others) (b ∷ rest) (sym point.split ∙ is) in
        never x (subst (λ w. IsCoordinateWord w x) first point.column_is))
    | inl (x, x_is) ↦ elim (told_coordinate b) [
      | inr never ↦ inr (λ x' y others point.
          let second : point.row ≡ b = same_first point.row b others rest
          (same_rest point.column a (point.row ∷ others) (b ∷ rest) (sym point.split ∙ is)) in
          never y (subst (λ w. IsCoordinateWord w y) second point.row_is))
      | inl (y, y_is) ↦ inl (record {
        x = x;
        y = y;
        rest = rest;
        point = record { column = a; row = b; split = is; column_is = x_is; row_is = y_is };
      })
    ]
  ]
]

-- the words behind a place, whatever the query
pub record HasPlace (words : List Word) : Type 0 where
  pub value : Option Rect
  pub rest : List Word
  pub parted : AreParted IsAt words value rest
  pub only : (at : Option Rect) (others : List Word) → AreParted IsAt words at others →
      BeginsOtherwise (codes "at") others → BeginsOtherwise (codes "to") others → (at ≡ value) × (others ≡ rest)

abbrev NoPlace : List Word → Type 0
NoPlace words = (at : Option Rect) (others : List Word) → AreParted IsAt words at others →
    BeginsOtherwise (codes "at") others → BeginsOtherwise (codes "to") others → ⊥

place_absent : (words own : List Word) (at : Option Rect) (rest : List Word) → BeginsOtherwise (codes "at") words → words ≡ own ++ rest →
    IsAt at own → (at ≡ None) × (rest ≡ words)
place_absent words _ _ rest absent split no_place = (refl, sym split)
place_absent words _ _ rest absent split (one_point a b at_x at_y) = absurd (absent (a ∷ b ∷ rest) split)
place_absent words _ _ rest absent split (rectangle a b c d at_x at_y at_x1 at_y1 wide high) =
    absurd (absent (a ∷ b ∷ bare (codes "to") ∷ c ∷ d ∷ rest) split)

same_rect : (x y x' y' : ℕ) (u v u' v' : ℕ) → x ≡ u → y ≡ v → x' ≡ u' → y' ≡ v' → rect x y x' y' ≡ rect u v u' v'
same_rect x y x' y' u v u' v' a b c d = rw (a, b, c, d) refl

-- one point behind the name
one_only : (words behind behind_first : List Word) (x y : ℕ) → words ≡ bare (codes "at") ∷ behind → IsPointAt behind x y behind_first →
    BeginsOtherwise (codes "to") behind_first → (at : Option Rect) (rest : List Word) → IsPlaceThere behind at rest →
    (at ≡ Some (rect x y x y)) × (rest ≡ behind_first)
one_only words behind behind_first x y name first no_to at rest (point_there x' y' is point) =
    let (xs, ys, rests) = IsPointAt-once behind x' y' rest x y behind_first point first in
    (is ∙ ap (λ (r : Rect). Some r) (same_rect x' y' x' y' x y x y xs ys xs ys), rests)
one_only words behind behind_first x y name first no_to at rest (rectangle_there x' y' x1 y1 behind_to is other last wide high) =
    let (xs, ys, rests) = IsPointAt-once behind x' y' (bare (codes "to") ∷ behind_to) x y behind_first other first in
    absurd (no_to behind_to (sym rests))

place_behind_to : (words behind behind_first behind_to : List Word) (x y : ℕ) → words ≡ bare (codes "at") ∷ behind → IsPointAt behind x y behind_first →
    behind_first ≡ bare (codes "to") ∷ behind_to → HasPlace words ⊎ NoPlace words
place_behind_to words behind behind_first behind_to x y name first to = elim (told_point_at behind_to) [
  | inr never ↦ inr (at-no_last words behind behind_first behind_to x y name first to never)
  | inl last ↦ elim (cases_lt last.x x) [
    | inl narrow ↦ inr (λ at others parted otherwise no_to.
        let (x1, y1, is, point, wide, high) = rectangle_must words behind behind_first behind_to x y name first to at others parted otherwise no_to in
        let (xs, ys, rests) = IsPointAt-once behind_to x1 y1 others last.x last.y last.rest point last.point in
        omega (arith, xs, wide))
    | inr wide ↦ elim (cases_lt last.y y) [
      | inl flat ↦ inr (λ at others parted otherwise no_to.
          let (x1, y1, is, point, _, high) = rectangle_must words behind behind_first behind_to x y name first to at others parted otherwise no_to in
          let (xs, ys, rests) = IsPointAt-once behind_to x1 y1 others last.x last.y last.rest point last.point in
          omega (arith, ys, high))
      | inr high ↦ inl (record {
        value = Some (rect x y last.x last.y);
        rest = last.rest;
        parted = at-rectangle words behind behind_first behind_to last.rest x y last.x last.y name first to last.point wide high;
        only = λ at others parted otherwise no_to.
            let (x1, y1, is, point, _, _) = rectangle_must words behind behind_first behind_to x y name first to at others parted otherwise no_to in
            let (xs, ys, rests) = IsPointAt-once behind_to x1 y1 others last.x last.y last.rest point last.point in
            (is ∙ ap (λ (r : Rect). Some r) (same_rect x y x1 y1 x y last.x last.y refl refl xs ys), rests);
      })
    ]
  ]
]

pub told_place_words : (words : List Word) → HasPlace words ⊎ NoPlace words
told_place_words words = elim (told_name (codes "at") words) [
  | inr absent ↦ inl (record {
    value = None;
    rest = words;
    parted = at-absent words;
    only = λ at others parted otherwise no_to. place_absent words parted.own at others absent parted.split parted.says;
  })
  | inl (behind, name) ↦ elim (told_point_at behind) [
    | inr never ↦ inr (λ at others parted otherwise no_to. at-no_point words behind name never at others parted otherwise)
    | inl first ↦ elim (told_name (codes "to") first.rest) [
      | inl (behind_to, to) ↦ place_behind_to words behind first.rest behind_to first.x first.y name first.point to
      | inr no_to_there ↦ inl (record {
        value = Some (rect first.x first.y first.x first.y);
        rest = first.rest;
        parted = at-one_point words behind first.rest first.x first.y name first.point;
        only = λ at others parted otherwise no_to.
            one_only words behind first.rest first.x first.y name first.point no_to_there at others
            (place_there words behind parted.own at others name parted.split parted.says otherwise);
      })
    ]
  ]
]

-- ---- the pattern

pub told_pattern : (words : List Word) → ((pattern : Pattern) × IsPattern pattern words) ⊎ ((pattern : Pattern) → IsPattern pattern words → ⊥)
told_pattern [] = inr (λ pattern is. let e : [] ≡ bare is.0 ∷ [] = is.1 in absurd (cc e))
told_pattern ((word.Quoted bytes) ∷ rest) = inr (λ pattern is.
    let e : word.Quoted bytes ≡ bare is.0 = same_first (word.Quoted bytes) (bare is.0) rest [] is.1 in absurd (cc e))
told_pattern ((word.Bare bytes) ∷ w ∷ rest) = inr (λ pattern is.
    let e : w ∷ rest ≡ [] = same_rest (bare bytes) (bare is.0) (w ∷ rest) [] is.1 in absurd (cc e))
told_pattern ((word.Bare bytes) ∷ []) = elim (spells_or_fails bytes) [
  | inl (grid, spells) ↦ inl (
    record { cols = grid.cols; rows = grid.rows; cells = grid.cells; in_range = (spells.cols, spells.rows); filled = spells.count },
    (bytes, refl, spells),
  )
  | inr failed ↦ inr (λ pattern is.
      let same : is.0 ≡ bytes = same_bare is.0 bytes (same_first (bare is.0) (bare bytes) [] [] (sym is.1)) in
      spelled-faultless bytes (grid_of pattern) (subst (λ t. SpellsPattern t (grid_of pattern)) same is.2) failed.0 failed.1.here)
]

pub pattern_once : (words : List Word) (p q : Pattern) → IsPattern p words → IsPattern q words → p ≡ q
pattern_once words p q (text, is, spells) (other, is_too, spells_too) =
    let same : other ≡ text = same_bare other text (same_first (bare other) (bare text) [] [] (sym is_too ∙ is)) in
    pattern_same p q (spells-one text (grid_of p) (grid_of q) spells (subst (λ t. SpellsPattern t (grid_of q)) same spells_too))

-- ---- the whole search

abbrev query_of : Pattern → Bool → Bool → Bool → Option Shape → ℕ → ℕ → Option Rect → Query
query_of pattern same fixed main board from to at = record {
  pattern = pattern;
  same = same;
  fixed = fixed;
  main = main;
  board = board;
  from_move = from;
  to_move = to;
  at = at;
}

pub same_query : (p q : Query) → p.pattern ≡ q.pattern → p.same ≡ q.same → p.fixed ≡ q.fixed → p.main ≡ q.main → p.board ≡ q.board →
    p.from_move ≡ q.from_move → p.to_move ≡ q.to_move → p.at ≡ q.at → p ≡ q
same_query p q pattern same fixed main board from to at =
    ap (λ v. query_of v p.same p.fixed p.main p.board p.from_move p.to_move p.at) pattern
    ∙ ap (λ v. query_of q.pattern v p.fixed p.main p.board p.from_move p.to_move p.at) same
    ∙ ap (λ v. query_of q.pattern q.same v p.main p.board p.from_move p.to_move p.at) fixed
    ∙ ap (λ v. query_of q.pattern q.same q.fixed v p.board p.from_move p.to_move p.at) main
    ∙ ap (λ v. query_of q.pattern q.same q.fixed q.main v p.from_move p.to_move p.at) board
    ∙ ap (λ v. query_of q.pattern q.same q.fixed q.main q.board v p.to_move p.at) from
    ∙ ap (λ v. query_of q.pattern q.same q.fixed q.main q.board q.from_move v p.at) to
    ∙ ap (λ v. query_of q.pattern q.same q.fixed q.main q.board q.from_move q.to_move v) at

-- the search that words spell, and no other
abbrev pub HasBody : List Word → Type 0
HasBody words = (query : Query) × IsBody words query × ((other : Query) → IsBody words other → other ≡ query)

-- the words behind each option, whatever the query
abbrev pub SameOption : List Word → Type 0
SameOption words = HasOption (IsFlag (codes "same")) (codes "same") words

abbrev pub FixedOption : List Word → Type 0
FixedOption words = HasOption (IsFlag (codes "fixed")) (codes "fixed") words

abbrev MainOption : List Word → Type 0
MainOption words = HasOption (IsFlag (codes "main")) (codes "main") words

abbrev pub BoardOption : List Word → Type 0
BoardOption words = HasOption IsBoardOption (codes "board") words

abbrev MovesOption : List Word → Type 0
MovesOption words = HasOption AreMovesOf (codes "moves") words

module _ (query : Query) where
  after_same : (words : List Word) (o : SameOption words) → IsBody words query → (query.same ≡ o.value) × AreFromFixed o.rest query
  after_same words o body =
      let (others, parted, fixed) = from_same words query body in
      let found = o.only query.same others parted (begins-otherwise 1 (codes "same") others (from_fixed-begins others query fixed) (omega arith)) in
      (found.0, subst (λ l. AreFromFixed l query) found.1 fixed)

  after_fixed : (words : List Word) (o : FixedOption words) → AreFromFixed words query → (query.fixed ≡ o.value) × AreFromMain o.rest query
  after_fixed words o (others, parted, main) =
      let found = o.only query.fixed others parted (begins-otherwise 2 (codes "fixed") others (from_main-begins others query main) (omega arith)) in
      (found.0, subst (λ l. AreFromMain l query) found.1 main)

  after_main : (words : List Word) (o : MainOption words) → AreFromMain words query → (query.main ≡ o.value) × AreFromBoard o.rest query
  after_main words o (others, parted, board) =
      let found = o.only query.main others parted (begins-otherwise 3 (codes "main") others (from_board-begins others query board) (omega arith)) in
      (found.0, subst (λ l. AreFromBoard l query) found.1 board)

  after_board : (words : List Word) (o : BoardOption words) → AreFromBoard words query → (query.board ≡ o.value) × AreFromMoves o.rest query
  after_board words o (others, parted, moves) =
      let found = o.only query.board others parted (begins-otherwise 4 (codes "board") others (from_moves-begins others query moves) (omega arith)) in
      (found.0, subst (λ l. AreFromMoves l query) found.1 moves)

  abbrev own_moves : Moves
  own_moves = record { from = query.from_move; to = query.to_move }

  after_moves : (words : List Word) (o : MovesOption words) → AreFromMoves words query → (own_moves ≡ o.value) × AreFromAt o.rest query
  after_moves words o (others, parted, at) =
      let found = o.only own_moves others parted (begins-otherwise 5 (codes "moves") others (from_at-begins others query at) (omega arith)) in
      (found.0, subst (λ l. AreFromAt l query) found.1 at)

  pub after_at : (words : List Word) (o : HasPlace words) → AreFromAt words query → (query.at ≡ o.value) × IsPattern query.pattern o.rest
  after_at words o (others, parted, pattern) =
      let begins = pattern-begins query.pattern others pattern in
      let found = o.only query.at others parted (begins-otherwise 6 (codes "at") others begins (omega arith)) (begins-otherwise 6 (codes "to") others begins (omega arith)) in
      (found.0, subst (IsPattern query.pattern) found.1 pattern)

module _ (words : List Word) (s : SameOption words) (f : FixedOption s.rest) (m : MainOption f.rest) where
  to_board : (query : Query) → IsBody words query → AreFromBoard m.rest query
  to_board query body = (after_main query f.rest m (after_fixed query s.rest f (after_same query words s body).1).1).1

  module _ (b : BoardOption m.rest) (v : MovesOption b.rest) (p : HasPlace v.rest) where
    to_pattern : (query : Query) → IsBody words query → IsPattern query.pattern p.rest
    to_pattern query body =
        (after_at query v.rest p (after_moves query b.rest v (after_board query m.rest b (to_board query body)).1).1).1

    module _ (pattern : Pattern) (is : IsPattern pattern p.rest) where
      abbrev made : Query
      made = record {
        pattern = pattern;
        same = s.value;
        fixed = f.value;
        main = m.value;
        board = b.value;
        from_move = v.value.from;
        to_move = v.value.to;
        at = p.value;
      }

      made-body : IsBody words made
      made-body = record {
        same = s.parted.own;
        fixed = f.parted.own;
        main = m.parted.own;
        board = b.parted.own;
        moves = v.parted.own;
        at = p.parted.own;
        pattern = p.rest;
        in_order = s.parted.split ∙ ap (λ l. s.parted.own ++ l)
            (f.parted.split ∙ ap (λ l. f.parted.own ++ l)
            (m.parted.split ∙ ap (λ l. m.parted.own ++ l)
            (b.parted.split ∙ ap (λ l. b.parted.own ++ l)
            (v.parted.split ∙ ap (λ l. v.parted.own ++ l) p.parted.split))));
        same_is = s.parted.says;
        fixed_is = f.parted.says;
        main_is = m.parted.says;
        board_is = b.parted.says;
        moves_are = v.parted.says;
        at_is = p.parted.says;
        pattern_is = is;
      }

      made-only : (other : Query) → IsBody words other → other ≡ made
      made-only other body =
          let one = after_same other words s body in
          let two = after_fixed other s.rest f one.1 in
          let three = after_main other f.rest m two.1 in
          let four = after_board other m.rest b three.1 in
          let five = after_moves other b.rest v four.1 in
          let six = after_at other v.rest p five.1 in
          same_query other made (pattern_once p.rest other.pattern pattern six.1 is) one.0 two.0 three.0 four.0
          (ap (λ (n : Moves). n.from) five.0) (ap (λ (n : Moves). n.to) five.0) six.0

pub told_body : (words : List Word) → HasBody words ⊎ ((query : Query) → IsBody words query → ⊥)
told_body words =
    let s : SameOption words = flag_in (codes "same") words in
    let f : FixedOption s.rest = flag_in (codes "fixed") s.rest in
    let m : MainOption f.rest = flag_in (codes "main") f.rest in
    elim (told_board_words m.rest) [
      | inr never ↦ inr (λ query body. no_board m.rest query never (to_board words s f m query body))
      | inl b ↦ elim (told_moves_words b.rest) [
        | inr never ↦ inr (λ query body.
            no_moves_there b.rest query never (after_board query m.rest b (to_board words s f m query body)).1)
        | inl v ↦ elim (told_place_words v.rest) [
          | inr never ↦ inr (λ query body.
              no_place_there v.rest query never
              (after_moves query b.rest v (after_board query m.rest b (to_board words s f m query body)).1).1)
          | inl p ↦ elim (told_pattern p.rest) [
            | inr never ↦ inr (λ query body. never query.pattern (to_pattern words s f m b v p query body))
            | inl (pattern, is) ↦ inl (
              made words s f m b v p pattern is,
              made-body words s f m b v p pattern is,
              made-only words s f m b v p pattern is,
            )
          ]
        ]
      ]
    ]
