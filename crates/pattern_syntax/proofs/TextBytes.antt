-- The text of a pattern byte by byte: where the bytes of its cells stand, and where its `/`.
use Rattle.std.proofs.Common.{◌≡◌, inl, inr, ℕ, zero, suc, ◌+◌, ◌-◌, ◌*◌, ◌/◌, ◌%◌, ◌<◌, ◌≤◌, List, [], ◌∷◌, ◌++◌, length, get_or, map, refl, sym, ap, ◌∙◌, subst, arith}
use Rattle.std.specs.List.{range_with_len, join_with_byte}
use Rattle.std.proofs.Math.Nat.{mod-lt, mod-add-div', div-lt_iff_lt-mul}
use Rattle.std.proofs.lemmas.Bool.{cases_lt}
use Rattle.std.proofs.lemmas.List.{length-append, get_or_append_left, get_or-append_right, same_lists, get_or_default, append_assoc}
use Rattle.std.proofs.lemmas.List.FromFn.{length-map-range_with_len, get_or-map-range_with_len, map-range_with_len_more}
use Rattle.pattern_images.specs.Grid.{Grid, cell_in}
use Rattle.pattern_syntax.specs.Text.{slash, cell_byte, row_text, pattern_text}

-- pieces with `/` between each two
abbrev pub with_slashes : (ℕ → List ℕ) → ℕ → ℕ → List ℕ
with_slashes f a n = join_with_byte slash (map f (range_with_len a n))

module _ (f : ℕ → List ℕ) (c : ℕ) (even : (y : ℕ) → length (f y) ≡ c) where
  length-with_slashes : (a n : ℕ) → length (with_slashes f a (suc n)) + 1 ≡ suc n * (c + 1)
  length-with_slashes a zero = omega (arith, even a)
  length-with_slashes a (suc n) = omega (arith, even a, length-append (f a) (slash ∷ with_slashes f (a + 1) (suc n)), length-with_slashes (a + 1) n)

  -- the byte behind a piece and its `/` is one of the other pieces
  behind : (a n p q : ℕ) → p ≡ c + 1 + q → get_or (with_slashes f a (suc (suc n))) p 0 ≡ get_or (with_slashes f (a + 1) (suc n)) q 0
  behind a n p q at =
      get_or-append_right (f a) (slash ∷ with_slashes f (a + 1) (suc n)) c p 0 (even a) (omega arith)
      ∙ ap (λ i. get_or (slash ∷ with_slashes f (a + 1) (suc n)) i 0) (let e : p - c ≡ suc q = omega arith in e)

  get_or-with_slashes : (a n x y p : ℕ) → x < c → y < n → p ≡ y * (c + 1) + x → get_or (with_slashes f a n) p 0 ≡ get_or (f (a + y)) x 0
  get_or-with_slashes a zero x y p column row at = absurd (omega arith)
  get_or-with_slashes a (suc zero) x y p column row at =
      let none : y ≡ 0 = omega arith in
      let place : p ≡ x = at ∙ ap (λ m. m * (c + 1) + x) none ∙ omega arith in
      ap (λ i. get_or (f a) i 0) place ∙ ap (λ i. get_or (f i) x 0) (omega arith)
  get_or-with_slashes a (suc (suc n)) x zero p column row at =
      get_or_append_left (f a) (slash ∷ with_slashes f (a + 1) (suc n)) 0 p (omega (arith, even a))
      ∙ ap (λ i. get_or (f a) i 0) (let e : p ≡ x = omega arith in e) ∙ ap (λ i. get_or (f i) x 0) (omega arith)
  get_or-with_slashes a (suc (suc n)) x (suc y) p column row at =
      behind a n p (y * (c + 1) + x) (omega arith)
      ∙ get_or-with_slashes (a + 1) (suc n) x y (y * (c + 1) + x) column (omega arith) refl
      ∙ ap (λ i. get_or (f i) x 0) (omega arith)

  slash-with_slashes : (a n y p : ℕ) → y + 1 < n → p ≡ y * (c + 1) + c → get_or (with_slashes f a n) p 0 ≡ slash
  slash-with_slashes a zero y p row at = absurd (omega arith)
  slash-with_slashes a (suc zero) y p row at = absurd (omega arith)
  slash-with_slashes a (suc (suc n)) zero p row at =
      get_or-append_right (f a) (slash ∷ with_slashes f (a + 1) (suc n)) c p 0 (even a) (omega arith)
      ∙ ap (λ i. get_or (slash ∷ with_slashes f (a + 1) (suc n)) i 0) (let e : p - c ≡ zero = omega arith in e)
  slash-with_slashes a (suc (suc n)) (suc y) p row at =
      behind a n p (y * (c + 1) + c) (omega arith) ∙ slash-with_slashes (a + 1) (suc n) y (y * (c + 1) + c) (omega arith) refl

-- one piece more
pub with_slashes-more : (f : ℕ → List ℕ) (a n b : ℕ) → a + suc n ≡ b → with_slashes f a (suc n) ++ slash ∷ f b ≡ with_slashes f a (suc (suc n))
with_slashes-more f a zero b at = ap (λ i. f a ++ slash ∷ f i) (sym at)
with_slashes-more f a (suc n) b at =
    append_assoc (f a) (slash ∷ with_slashes f (a + 1) (suc n)) (slash ∷ f b)
    ∙ ap (λ rest. f a ++ slash ∷ rest) (with_slashes-more f (a + 1) n b (omega arith))

-- ---- what a printer appends

-- one number more behind a list
pub appended-more : (f : ℕ → ℕ) (before out new : List ℕ) (x byte : ℕ) → out ≡ before ++ map f (range_with_len 0 x) → new ≡ out ++ byte ∷ [] → byte ≡ f x →
    new ≡ before ++ map f (range_with_len 0 (x + 1))
appended-more f before out new x byte so_far pushed is =
    pushed
    ∙ ap (λ l. l ++ byte ∷ []) so_far
    ∙ append_assoc before (map f (range_with_len 0 x)) (byte ∷ [])
    ∙ ap (λ b. before ++ (map f (range_with_len 0 x) ++ b ∷ [])) is
    ∙ ap (λ l. before ++ l) (sym (map-range_with_len_more f 0 x x (omega arith)))

-- one piece more behind a list
pub with_slashes-appended : (f : ℕ → List ℕ) (before out parted new : List ℕ) (y : ℕ) → 1 ≤ y → out ≡ before ++ with_slashes f 0 y → parted ≡ out ++ slash ∷ [] → new ≡ parted ++ f y →
    new ≡ before ++ with_slashes f 0 (y + 1)
with_slashes-appended f before out parted new zero some so_far pushed is = absurd (omega arith)
with_slashes-appended f before out parted new (suc y) some so_far pushed is =
    is
    ∙ ap (λ l. l ++ f (suc y)) (pushed ∙ ap (λ l. l ++ slash ∷ []) so_far)
    ∙ append_assoc (before ++ with_slashes f 0 (suc y)) (slash ∷ []) (f (suc y))
    ∙ append_assoc before (with_slashes f 0 (suc y)) (slash ∷ f (suc y))
    ∙ ap (λ l. before ++ l) (with_slashes-more f 0 y (suc y) (omega arith))
    ∙ ap (λ n. before ++ with_slashes f 0 n) (let e : suc (suc y) ≡ suc y + 1 = omega arith in e)

-- The bytes of a text: those of the cells of each row, and a `/` behind each row but the last.
pub record IsLaidOut (text : List ℕ) (grid : Grid) : Type 0 where
  pub size : length text + 1 ≡ grid.rows * (grid.cols + 1)
  pub cells : (x y : ℕ) → x < grid.cols → y < grid.rows → get_or text (y * (grid.cols + 1) + x) 0 ≡ cell_byte (cell_in grid x y)
  pub parted : (y : ℕ) → y + 1 < grid.rows → get_or text (y * (grid.cols + 1) + grid.cols) 0 ≡ slash

pub length-row_text : (grid : Grid) (y : ℕ) → length (row_text grid y) ≡ grid.cols
length-row_text grid y = length-map-range_with_len (λ x. cell_byte (cell_in grid x y)) 0 grid.cols

-- the text of a pattern is laid out so
pub pattern_text-laid_out : (grid : Grid) → 0 < grid.rows → IsLaidOut (pattern_text grid) grid
pattern_text-laid_out grid some = record {
  size =
      let n : ℕ = grid.rows - 1 in
      let all : grid.rows ≡ suc n = omega arith in
      subst (λ rows. length (with_slashes (row_text grid) 0 rows) + 1 ≡ rows * (grid.cols + 1)) (sym all) (length-with_slashes (row_text grid) grid.cols (length-row_text grid) 0 n);
  cells = λ x y column row.
      get_or-with_slashes (row_text grid) grid.cols (length-row_text grid) 0 grid.rows x y (y * (grid.cols + 1) + x) column row refl
      ∙ ap (λ i. get_or (row_text grid i) x 0) (omega arith)
      ∙ get_or-map-range_with_len (λ x. cell_byte (cell_in grid x y)) 0 grid.cols x x 0 column (omega arith);
  parted = λ y row. slash-with_slashes (row_text grid) grid.cols (length-row_text grid) 0 grid.rows y (y * (grid.cols + 1) + grid.cols) row refl;
}

-- the row and the column of an offset: the column may be that of the `/`
pub offset-place : (cols rows k : ℕ) → k < rows * (cols + 1) → (y : ℕ) × (x : ℕ) × (y < rows) × (x ≤ cols) × (y * (cols + 1) + x ≡ k)
offset-place cols rows k lt =
    let some : 0 < cols + 1 = omega arith in
    let at : k % (cols + 1) + k / (cols + 1) * (cols + 1) ≡ k = mod-add-div' k (cols + 1) in
    (k / (cols + 1), k % (cols + 1), (div-lt_iff_lt-mul some).1 lt, omega (arith, mod-lt k some), omega arith)

-- a `/` before the end of the text stands behind a row that isn't the last one
pub not_last : (length cols rows y k : ℕ) → length + 1 ≡ rows * (cols + 1) → k < length → y < rows → y * (cols + 1) + cols ≡ k → y + 1 < rows
not_last length cols rows y k size lt row at = elim (cases_lt (y + 1) rows) [
  | inl below ↦ below
  | inr ge ↦
      let last : rows ≡ y + 1 = omega arith in
      let all : rows * (cols + 1) ≡ (y + 1) * (cols + 1) = ap (λ n. n * (cols + 1)) last in
      absurd (omega arith)
]

-- two texts that are laid out by one pattern are one text
pub same_text : (a b : List ℕ) (grid : Grid) → IsLaidOut a grid → IsLaidOut b grid → a ≡ b
same_text a b grid one other = same_lists a b (omega (arith, one.size, other.size)) (λ k d lt.
    let place = offset-place grid.cols grid.rows k (omega (arith, one.size)) in
    let same : get_or a k 0 ≡ get_or b k 0 = elim (cases_lt place.1 grid.cols) [
      | inl column ↦ ap (λ i. get_or a i 0) (sym place.4) ∙ one.cells place.1 place.0 column place.2 ∙ sym (other.cells place.1 place.0 column place.2) ∙ ap (λ i. get_or b i 0) place.4
      | inr ge ↦
          let at : place.0 * (grid.cols + 1) + grid.cols ≡ k = omega (arith, place.3, place.4) in
          let row : place.0 + 1 < grid.rows = not_last (length a) grid.cols grid.rows place.0 k one.size lt place.2 at in
          ap (λ i. get_or a i 0) (sym at) ∙ one.parted place.0 row ∙ sym (other.parted place.0 row) ∙ ap (λ i. get_or b i 0) at
    ] in
    get_or_default a k d 0 lt ∙ same ∙ get_or_default b k 0 d (omega (arith, one.size, other.size)))
