-- Each text is one of a form, or none: white space at the ends, sizes, points, moves and setups.
use Rattle.std.proofs.Common.{◌≡◌, ◌≢◌, ◌⊎◌, ◌∙◌, ◌≤◌, ◌<◌, ◌+◌, ◌-◌, ◌++◌, ℕ, List, [], ◌∷◌, All, Option, Some, None, refl, sym, ap, subst, arith, length, inl, inr, append_assoc, codes}
use Rattle.std.specs.Str.Parse.{AllDigits, digits_value}
use Rattle.std.specs.Char.{digit_value}
use Rattle.std.proofs.lemmas.Bool.{cases_eq, cases_lt}
use Rattle.std.proofs.lemmas.List.Elements.{All-cons, All-nil}
use Rattle.kb_geometry.specs.declared.shape.Point.{Point}
use Rattle.kb_geometry.specs.declared.shape.Rect.{Rect}
use Rattle.kb_geometry.specs.declared.shape.Shape.{Shape}
use Rattle.kb_geometry.specs.Board.{cols_of, rows_of}
use Rattle.kb_geometry.specs.Side.{IsSide}
use Rattle.game_tree.specs.Property.{IsTrimmed}
use Rattle.game_tree.specs.Value.{IsCoordinate, IsMoveText, IsMoveValue, IsPoint, IsSetupText, IsSetupValue, IsSideText, IsSize, columns_and_rows, rect_of, square}
use Rattle.game_tree.proofs.Colons.{HasNoColon, corners_at, one_point_at, setup-corners, setup-point, size-sides, size-square}
use Rattle.game_tree.proofs.Passes.{empty_pass, move_at, no_move, no_setup, nothing_set, pass_texts, written_pass}
use Rattle.game_tree.proofs.Values.{no_column, no_letters, no_row, off_board, point_at}

abbrev IsWhite : List ℕ → Type 0
IsWhite text = All (λ (b : ℕ). b ≤ 32) text

-- ---- white space at either end

record Leading (value : List ℕ) : Type 0 where
  before : List ℕ
  rest : List ℕ
  split : value ≡ before ++ rest
  white : IsWhite before
  first : (b : ℕ) (more : List ℕ) → rest ≡ b ∷ more → 32 < b

leading : (value : List ℕ) → Leading value
leading [] = record { before = []; rest = []; split = refl; white = All-nil (λ (b : ℕ). b ≤ 32); first = λ b more e. absurd (cc) }
leading (b ∷ value) = elim (cases_lt 32 b) [
  | inl dark ↦ record { before = []; rest = b ∷ value; split = refl; white = All-nil (λ (b : ℕ). b ≤ 32); first = λ c more e. (let same : b ≡ c = cc in omega arith) }
  | inr light ↦
      let more = leading value in
      record { before = b ∷ more.before; rest = more.rest; split = ap (λ r. b ∷ r) more.split; white = All-cons (λ (b : ℕ). b ≤ 32) b more.before light more.white; first = more.first }
]

record Trailing (value : List ℕ) : Type 0 where
  inner : List ℕ
  after : List ℕ
  split : value ≡ inner ++ after
  white : IsWhite after
  last : (b : ℕ) (front : List ℕ) → inner ≡ front ++ b ∷ [] → 32 < b

not_last : (b : ℕ) (front : List ℕ) → [] ≢ front ++ b ∷ []
not_last b [] e = cc
not_last b (c ∷ front) e = cc

last-one : (x : ℕ) → 32 < x → (b : ℕ) (front : List ℕ) → x ∷ [] ≡ front ++ b ∷ [] → 32 < b
last-one x dark b [] e = let same : x ≡ b = cc in omega arith
last-one x dark b (c ∷ front) e = let rest : [] ≡ front ++ b ∷ [] = cc in absurd (not_last b front rest)

last-more : (x y : ℕ) (inner : List ℕ) → ((b : ℕ) (front : List ℕ) → y ∷ inner ≡ front ++ b ∷ [] → 32 < b) → (b : ℕ) (front : List ℕ) → x ∷ y ∷ inner ≡ front ++ b ∷ [] → 32 < b
last-more x y inner last b [] e = absurd (cc)
last-more x y inner last b (c ∷ front) e = let rest : y ∷ inner ≡ front ++ b ∷ [] = cc in last b front rest

trail-more : (x : ℕ) (value inner after : List ℕ) → value ≡ inner ++ after → IsWhite after → ((b : ℕ) (front : List ℕ) → inner ≡ front ++ b ∷ [] → 32 < b) → Trailing (x ∷ value)
trail-more x value [] after split white last = elim (cases_lt 32 x) [
  | inl dark ↦ record { inner = x ∷ []; after = after; split = ap (λ r. x ∷ r) split; white = white; last = last-one x dark }
  | inr light ↦ record { inner = []; after = x ∷ after; split = ap (λ r. x ∷ r) split; white = All-cons (λ (b : ℕ). b ≤ 32) x after light white; last = λ b front e. absurd (not_last b front e) }
]
trail-more x value (y ∷ inner) after split white last = record { inner = x ∷ y ∷ inner; after = after; split = ap (λ r. x ∷ r) split; white = white; last = last-more x y inner last }

trailing : (value : List ℕ) → Trailing value
trailing [] = record { inner = []; after = []; split = refl; white = All-nil (λ (b : ℕ). b ≤ 32); last = λ b front e. absurd (not_last b front e) }
trailing (x ∷ value) = let more = trailing value in trail-more x value more.inner more.after more.split more.white more.last

-- each value is trimmed to a text
pub trimmed-there : (value : List ℕ) → (inner : List ℕ) × IsTrimmed value inner
trimmed-there value =
    let l = leading value in
    let t = trailing l.rest in (
      t.inner,
      record {
        before = l.before;
        after = t.after;
        split = l.split ∙ ap (λ r. l.before ++ r) t.split ∙ sym (append_assoc l.before t.inner t.after);
        white_before = l.white;
        white_after = t.white;
        first = λ b rest e. l.first b (rest ++ t.after) (t.split ∙ ap (λ i. i ++ t.after) e);
        last = t.last;
      },
    )

-- ---- a colon

colon-or-none : (text : List ℕ) → ((one : List ℕ) × (other : List ℕ) × (text ≡ one ++ 58 ∷ other) × HasNoColon one) ⊎ HasNoColon text
colon-or-none [] = inr (All-nil (λ (b : ℕ). b ≢ 58))
colon-or-none (b ∷ text) = elim (cases_eq b 58) [
  | inl same ↦ inl ([], text, ap (λ c. c ∷ text) same, All-nil (λ (b : ℕ). b ≢ 58))
  | inr other ↦ elim (colon-or-none text) [
    | inl found ↦ inl (b ∷ found.0, found.1, ap (λ t. b ∷ t) found.2, All-cons (λ (b : ℕ). b ≢ 58) b found.0 other found.3)
    | inr none ↦ inr (All-cons (λ (b : ℕ). b ≢ 58) b text other none)
  ]
]

-- ---- sizes

digits-or-none : (text : List ℕ) → AllDigits 10 text ⊎ ¬ AllDigits 10 text
digits-or-none [] = inl tt
digits-or-none (c ∷ cs) = elim (cases_lt (digit_value c) 10) [
  | inl digit ↦ elim (digits-or-none cs) [ inl digits ↦ inl (digit, digits) | inr none ↦ inr (λ all. none all.1) ]
  | inr large ↦ inr (λ all. omega (arith, all.0, large))
]

side-or-not : (n : ℕ) → IsSide n ⊎ ¬ IsSide n
side-or-not n = elim (cases_lt 0 n) [
  | inl some ↦ elim (cases_lt 52 n) [ inl large ↦ inr (λ side. omega (arith, side.1)) | inr few ↦ inl (omega arith, few) ]
  | inr none ↦ inr (λ side. omega (arith, side.0))
]

side-or-none : (text : List ℕ) → ((n : ℕ) × IsSideText text n) ⊎ ((n : ℕ) → ¬ IsSideText text n)
side-or-none text = elim (cases_lt 0 (length text)) [
  | inr none ↦ inr (λ n side. omega (arith, side.0.0))
  | inl some ↦ elim (digits-or-none text) [
    | inr none ↦ inr (λ n side. none side.0.1)
    | inl digits ↦ elim (side-or-not (digits_value 10 text)) [
      | inl side ↦ inl (digits_value 10 text, ((some, digits), refl, side))
      | inr none ↦ inr (λ n side. none (subst IsSide (sym side.1) side.2))
    ]
  ]
]

-- each two sides have a board
pub shape-there : (cols rows : ℕ) → IsSide cols → IsSide rows → (shape : Shape) × (cols_of shape ≡ cols) × (rows_of shape ≡ rows)
shape-there cols rows c r = (record { cols = cols; rows = rows; in_range = (c, r) }, refl, refl)

sides-or-none : (text one other : List ℕ) → text ≡ one ++ 58 ∷ other → HasNoColon one → ((shape : Shape) × IsSize text shape) ⊎ ((shape : Shape) → ¬ IsSize text shape)
sides-or-none text one other is none = elim (side-or-none one) [
  | inr lacks ↦ inr (λ shape size. lacks (cols_of shape) (size-sides one other shape text is none size).0)
  | inl columns ↦ elim (side-or-none other) [
    | inr lacks ↦ inr (λ shape size. lacks (rows_of shape) (size-sides one other shape text is none size).1)
    | inl rows ↦
        let made = shape-there columns.0 rows.0 columns.1.2 rows.1.2 in
        let size : IsSize (one ++ 58 ∷ other) made.0 = columns_and_rows one other (subst (IsSideText one) (sym made.1) columns.1) (subst (IsSideText other) (sym made.2) rows.1) in
        inl (made.0, subst (λ t. IsSize t made.0) (sym is) size)
  ]
]

-- a text is a size or none
pub size-or-none : (text : List ℕ) → ((shape : Shape) × IsSize text shape) ⊎ ((shape : Shape) → ¬ IsSize text shape)
size-or-none text = elim (colon-or-none text) [
  | inl found ↦ sides-or-none text found.0 found.1 found.2 found.3
  | inr none ↦ elim (side-or-none text) [
    | inr lacks ↦ inr (λ shape size. lacks (cols_of shape) (size-square text shape none size).0)
    | inl side ↦
        let made = shape-there side.0 side.0 side.1.2 side.1.2 in
        inl (made.0, square (subst (IsSideText text) (sym made.1) side.1) (made.2 ∙ sym made.1))
  ]
]

-- ---- points

large-letter : (letter : ℕ) → 122 < letter → (n : ℕ) → ¬ IsCoordinate letter n
large-letter letter h n (inl low) = omega (arith, low.0, low.1)
large-letter letter h n (inr high) = omega (arith, high.1, high.2)

middle-letter : (letter : ℕ) → 90 < letter → letter < 97 → (n : ℕ) → ¬ IsCoordinate letter n
middle-letter letter h k n (inl low) = omega (arith, low.1)
middle-letter letter h k n (inr high) = omega (arith, high.1, high.2)

no_letter : (letter : ℕ) → letter < 65 → (n : ℕ) → ¬ IsCoordinate letter n
no_letter letter h n (inl low) = omega (arith, low.1)
no_letter letter h n (inr high) = omega (arith, high.2)

coordinate-or-none : (letter : ℕ) → ((n : ℕ) × IsCoordinate letter n) ⊎ ((n : ℕ) → ¬ IsCoordinate letter n)
coordinate-or-none letter = elim (cases_lt letter 65) [
  | inl below ↦ inr (no_letter letter below)
  | inr from ↦ elim (cases_lt 90 letter) [
    | inr capital ↦ inl (letter - 65 + 26, inr (omega arith, omega arith, omega arith))
    | inl above ↦ elim (cases_lt letter 97) [
      | inl between ↦ inr (middle-letter letter above between)
      | inr small ↦ elim (cases_lt 122 letter) [
        | inl beyond ↦ inr (large-letter letter beyond)
        | inr last ↦ inl (letter - 97, inl (omega arith, omega arith))
      ]
    ]
  ]
]

letters-or-none : (shape : Shape) (a b : ℕ) → ((p : Point) × IsPoint shape (a ∷ b ∷ []) p) ⊎ ((p : Point) → ¬ IsPoint shape (a ∷ b ∷ []) p)
letters-or-none shape a b = elim (coordinate-or-none a) [
  | inr none ↦ inr (no_column shape (a ∷ b ∷ []) a b refl none)
  | inl column ↦ elim (coordinate-or-none b) [
    | inr none ↦ inr (no_row shape (a ∷ b ∷ []) a b refl none)
    | inl row ↦ elim (cases_lt column.0 (cols_of shape)) [
      | inr far ↦ inr (off_board shape (a ∷ b ∷ []) a b column.0 row.0 refl column.1 row.1 (inl far))
      | inl in_x ↦ elim (cases_lt row.0 (rows_of shape)) [
        | inr far ↦ inr (off_board shape (a ∷ b ∷ []) a b column.0 row.0 refl column.1 row.1 (inr far))
        | inl in_y ↦ inl (record { x = column.0; y = row.0 }, point_at shape (a ∷ b ∷ []) a b column.0 row.0 refl column.1 row.1 in_x in_y)
      ]
    ]
  ]
]

-- a text is a point of the board or none
pub point-or-none : (shape : Shape) (text : List ℕ) → ((p : Point) × IsPoint shape text p) ⊎ ((p : Point) → ¬ IsPoint shape text p)
point-or-none shape [] = inr (no_letters shape [] (λ a b e. cc))
point-or-none shape (a ∷ []) = inr (no_letters shape (a ∷ []) (λ c d e. cc))
point-or-none shape (a ∷ b ∷ []) = letters-or-none shape a b
point-or-none shape (a ∷ b ∷ c ∷ text) = inr (no_letters shape (a ∷ b ∷ c ∷ text) (λ d f e. cc))

-- ---- moves

-- the text is `tt`
tt-or-not : (text : List ℕ) → (text ≡ codes "tt") ⊎ (text ≢ codes "tt")
tt-or-not [] = inr (λ e. cc)
tt-or-not (a ∷ []) = inr (λ e. cc)
tt-or-not (a ∷ b ∷ c ∷ text) = inr (λ e. cc)
tt-or-not (a ∷ b ∷ []) = elim (cases_eq a 116) [
  | inr other ↦ inr (λ e. (let first : a ≡ 116 = cc in other first))
  | inl first ↦ elim (cases_eq b 116) [
    | inr other ↦ inr (λ e. (let second : b ≡ 116 = cc in other second))
    | inl second ↦ inl (let both : a ∷ b ∷ [] ≡ 116 ∷ 116 ∷ [] = cc in both)
  ]
]

-- the text is a pass or none
tt-pass : (shape : Shape) (text : List ℕ) → text ≢ [] → IsMoveText shape text None ⊎ ¬ IsMoveText shape text None
tt-pass shape text some = elim (tt-or-not text) [
  | inr other ↦ inr (λ m. elim (pass_texts shape text m) [ inl none ↦ some none | inr (cols, rows, is) ↦ other is ])
  | inl is ↦ elim (cases_lt 19 (cols_of shape)) [
    | inl wide ↦ inr (λ m. elim (pass_texts shape text m) [ inl none ↦ some none | inr (cols, rows, _) ↦ omega (arith, cols, wide) ])
    | inr cols ↦ elim (cases_lt 19 (rows_of shape)) [
      | inl high ↦ inr (λ m. elim (pass_texts shape text m) [ inl none ↦ some none | inr (_, rows, _) ↦ omega (arith, rows, high) ])
      | inr rows ↦ inl (written_pass shape text is cols rows)
    ]
  ]
]

pass-or-none : (shape : Shape) (text : List ℕ) → IsMoveText shape text None ⊎ ¬ IsMoveText shape text None
pass-or-none shape [] = inl (empty_pass shape [] refl)
pass-or-none shape (b ∷ text) = tt-pass shape (b ∷ text) (λ e. cc)

-- a value is a move or none
pub move-or-none : (shape : Shape) (value : List ℕ) → ((move : Option Point) × IsMoveValue shape value move) ⊎ ((move : Option Point) → ¬ IsMoveValue shape value move)
move-or-none shape value =
    let text = trimmed-there value in
    elim (pass-or-none shape text.0) [
      | inl passes ↦ inl (None, (text.0, text.1, passes))
      | inr no_pass ↦ elim (point-or-none shape text.0) [
        | inl at ↦ inl (Some at.0, move_at shape value text.0 at.0 text.1 at.1)
        | inr none ↦ inr (no_move shape value text.0 text.1 no_pass none)
      ]
    ]

-- ---- setups

corners-or-none : (shape : Shape) (text one other : List ℕ) → text ≡ one ++ 58 ∷ other → HasNoColon one → ((r : Rect) × IsSetupText shape text (Some r)) ⊎ ((r : Rect) → ¬ IsSetupText shape text (Some r))
corners-or-none shape text one other is none = elim (point-or-none shape one) [
  | inr lacks ↦ inr (λ r setup. (let (p, q, at_p, at_q, _) = setup-corners shape one other text r is none setup in lacks p at_p))
  | inl p ↦ elim (point-or-none shape other) [
    | inr lacks ↦ inr (λ r setup. (let (a, b, at_a, at_b, _) = setup-corners shape one other text r is none setup in lacks b at_b))
    | inl q ↦ inl (rect_of p.0 q.0, corners_at shape text one other p.0 q.0 (rect_of p.0 q.0) is p.1 q.1 refl)
  ]
]

rect-or-none : (shape : Shape) (text : List ℕ) → ((r : Rect) × IsSetupText shape text (Some r)) ⊎ ((r : Rect) → ¬ IsSetupText shape text (Some r))
rect-or-none shape text = elim (colon-or-none text) [
  | inl found ↦ corners-or-none shape text found.0 found.1 found.2 found.3
  | inr none ↦ elim (point-or-none shape text) [
    | inl p ↦ inl (rect_of p.0 p.0, one_point_at shape text p.0 (rect_of p.0 p.0) p.1 refl)
    | inr lacks ↦ inr (λ r setup. (let (p, at, _) = setup-point shape text r none setup in lacks p at))
  ]
]

empty-or-not : (text : List ℕ) → (text ≡ []) ⊎ (text ≢ [])
empty-or-not [] = inl refl
empty-or-not (b ∷ text) = inr (λ e. cc)

-- a value is a setup or none
pub setup-or-none : (shape : Shape) (value : List ℕ) → ((rect : Option Rect) × IsSetupValue shape value rect) ⊎ ((rect : Option Rect) → ¬ IsSetupValue shape value rect)
setup-or-none shape value =
    let text = trimmed-there value in
    elim (empty-or-not text.0) [
      | inl none ↦ inl (None, nothing_set shape value text.0 text.1 none)
      | inr some ↦ elim (rect-or-none shape text.0) [
        | inl r ↦ inl (Some r.0, (text.0, text.1, r.1))
        | inr lacks ↦ inr (no_setup shape value text.0 text.1 some lacks)
      ]
    ]
