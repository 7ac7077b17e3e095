-- Images in one list of words: how many they are, each of them, and the images with one cell put.
use Rattle.std.proofs.Common.{◌≡◌, ◌≢◌, ℕ, ◌+◌, ◌-◌, ◌*◌, ◌/◌, ◌^◌, ◌<◌, ◌≤◌, inl, inr, List, length, get_or, set, take, drop, replicate, refl, sym, ap, ◌∙◌, subst, arith}
use Rattle.std.proofs.lemmas.Bool.{cases_eq, cases_lt}
use Rattle.std.proofs.lemmas.List.{get_or-drop, get_or-replicate, get_or-set_other, get_or-set_same, get_or-take, length-drop, length-replicate, length-set, length-take-le, same_lists}
use Rattle.std.proofs.lemmas.List.FromFn.{get_or-map-range_with_len, length-map-range_with_len}
use Rattle.std.proofs.lemmas.Nat.{mul-le}
use Rattle.kb_geometry.specs.declared.shape.Shape.{Shape}
use Rattle.kb_geometry.specs.declared.stone.Cell.{Cell}
use Rattle.kb_geometry.specs.Board.{point_count}
use Rattle.kb_geometry.specs.Capture.{Position, empty_board}
use Rattle.opening_tree.specs.Frames.{AreImages, image_in, symmetries_of}
use Rattle.opening_tree.specs.Packing.{AreCells, IsWithDigit, cells_of, digit_at, place_of, words_for}
use Rattle.opening_tree.specs.Canonical.{Brings, rank_of}
use Rattle.opening_tree.specs.Turned.{AreTurned, turned_shown, words_at}
use Rattle.opening_tree.proofs.ImageChanges.{Brings-empty, symmetry-allowed}
use Rattle.opening_tree.proofs.PackedCells.{AreCells-none, no_digit, none_there, put-made}

-- ---- rows of as many words each

-- a row ends before the rows do
pub row_within : (room n count : ℕ) → n < count → room * n + room ≤ room * count
row_within room n count lt =
    let le : room * (n + 1) ≤ room * count = mul-le room (n + 1) room count (omega arith) (omega (arith, lt)) in
    let more : room * (n + 1) ≡ room * n + room = omega arith in
    omega (arith, le, more)

module _ (room count : ℕ) (words : List ℕ) (long : length words ≡ room * count) (n : ℕ) (lt : n < count) where
  pub length-row : length (words_at room n words) ≡ room
  length-row = length-take-le room (drop (room * n) words) (omega (arith, length-drop (room * n) words, long, row_within room n count lt))

  pub get_or-row : (k d : ℕ) → k < room → get_or (words_at room n words) k d ≡ get_or words (room * n + k) d
  get_or-row k d below = get_or-take room (drop (room * n) words) k d below ∙ get_or-drop (room * n) words k d

-- another row is kept where a word is set
pub row-other : (room count : ℕ) (words : List ℕ) → length words ≡ room * count → (s n : ℕ) → s < count → n < count → n ≢ s → (j word : ℕ) → j < room → words_at room n (set words (room * s + j) word) ≡ words_at room n words
row-other room count words long s n lt below ne j word low =
    let more : length (set words (room * s + j) word) ≡ room * count = length-set words (room * s + j) word ∙ long in
    same_lists (words_at room n (set words (room * s + j) word)) (words_at room n words)
    (length-row room count (set words (room * s + j) word) more n below ∙ sym (length-row room count words long n below))
    (λ k d within.
    let small : k < room = omega (arith, within, length-row room count (set words (room * s + j) word) more n below) in
    let apart : room * n + k ≢ room * s + j = λ e. elim (cases_lt n s) [
      | inl before ↦ omega (arith, e, row_within room n s before, small)
      | inr le ↦ omega (arith, e, row_within room s n (omega (arith, le, ne)), low)
    ] in
    get_or-row room count (set words (room * s + j) word) more n below k d small
    ∙ get_or-set_other words (room * s + j) (room * n + k) word d apart
    ∙ sym (get_or-row room count words long n below k d small))

-- the row where a word is set
pub row-set : (room count : ℕ) (words : List ℕ) → length words ≡ room * count → (s : ℕ) → s < count → (j word : ℕ) → j < room → words_at room s (set words (room * s + j) word) ≡ set (words_at room s words) j word
row-set room count words long s lt j word low =
    let more : length (set words (room * s + j) word) ≡ room * count = length-set words (room * s + j) word ∙ long in
    let there : room * s + j < length words = omega (arith, long, row_within room s count lt, low) in
    let row = length-row room count words long s lt in
    same_lists (words_at room s (set words (room * s + j) word)) (set (words_at room s words) j word)
    (length-row room count (set words (room * s + j) word) more s lt ∙ sym (length-set (words_at room s words) j word ∙ row))
    (λ k d within.
    let small : k < room = omega (arith, within, length-row room count (set words (room * s + j) word) more s lt) in
    get_or-row room count (set words (room * s + j) word) more s lt k d small
    ∙ elim (cases_eq k j) [
      | inl e ↦
          ap (λ i. get_or (set words (room * s + j) word) (room * s + i) d) e ∙ get_or-set_same words (room * s + j) word d there
          ∙ sym (ap (λ i. get_or (set (words_at room s words) j word) i d) e ∙ get_or-set_same (words_at room s words) j word d (omega (arith, row, low)))
      | inr ne ↦
          get_or-set_other words (room * s + j) (room * s + k) word d (λ e. ne (omega (arith, e)))
          ∙ sym (get_or-set_other (words_at room s words) j k word d ne ∙ get_or-row room count words long s lt k d small)
    ])

-- ---- images

pub length-turned : (shape : Shape) (words : List ℕ) → length (turned_shown shape words) ≡ symmetries_of shape
unfolding turned_shown
length-turned shape words = length-map-range_with_len (λ n. cells_of (point_count shape) (words_at (words_for (point_count shape)) n words)) 0 (symmetries_of shape)

pub get_or-turned : (shape : Shape) (words : List ℕ) (n : ℕ) (d : Position) → n < symmetries_of shape → get_or (turned_shown shape words) n d ≡ cells_of (point_count shape) (words_at (words_for (point_count shape)) n words)
unfolding turned_shown
get_or-turned shape words n d lt = get_or-map-range_with_len (λ k. cells_of (point_count shape) (words_at (words_for (point_count shape)) k words)) 0 (symmetries_of shape) n n d lt (omega arith)

-- ---- a cell that is put

module _ (shape : Shape) (words : List ℕ) (are : AreTurned shape words) (s : ℕ) (lt : s < symmetries_of shape) (point : ℕ) (on : point < point_count shape) (stone : Cell) (at word old place digit : ℕ)
    (e_at : at ≡ words_for (point_count shape) * s + point / 32) (e_old : old ≡ get_or words at old) (e_place : place ≡ place_of point) (e_digit : digit ≡ rank_of stone) (is : IsWithDigit old place digit word) (fits : word < 2 ^ 64) where
  low : point / 32 < words_for (point_count shape)
  low = omega (arith, on)

  there : at < length words
  there = omega (arith, e_at, are.room, low, row_within (words_for (point_count shape)) s (symmetries_of shape) lt)

  read : old ≡ get_or (words_at (words_for (point_count shape)) s words) (point / 32) old
  read = e_old ∙ ap (λ k. get_or words k old) e_at ∙ sym (get_or-row (words_for (point_count shape)) (symmetries_of shape) words are.room s lt (point / 32) old low)

  made : AreCells (point_count shape) (set (words_at (words_for (point_count shape)) s words) (point / 32) word) × (cells_of (point_count shape) (set (words_at (words_for (point_count shape)) s words) (point / 32) word) ≡ set (cells_of (point_count shape) (words_at (words_for (point_count shape)) s words)) point stone)
  made = put-made (point_count shape) (words_at (words_for (point_count shape)) s words) (are.each s lt) point on stone (point / 32) word old place digit refl read e_place e_digit is fits

  new_row : words_at (words_for (point_count shape)) s (set words at word) ≡ set (words_at (words_for (point_count shape)) s words) (point / 32) word
  new_row = ap (λ k. words_at (words_for (point_count shape)) s (set words k word)) e_at ∙ row-set (words_for (point_count shape)) (symmetries_of shape) words are.room s lt (point / 32) word low

  old_row : (n : ℕ) → n < symmetries_of shape → n ≢ s → words_at (words_for (point_count shape)) n (set words at word) ≡ words_at (words_for (point_count shape)) n words
  old_row n below ne = ap (λ k. words_at (words_for (point_count shape)) n (set words k word)) e_at ∙ row-other (words_for (point_count shape)) (symmetries_of shape) words are.room s n lt below ne (point / 32) word low

  pub AreTurned-put : AreTurned shape (set words at word)
  AreTurned-put = record {
    room = length-set words at word ∙ are.room;
    each = λ n below. elim (cases_eq n s) [
      | inl e ↦ subst (λ k. AreCells (point_count shape) (words_at (words_for (point_count shape)) k (set words at word))) (sym e) (subst (AreCells (point_count shape)) (sym new_row) made.0)
      | inr ne ↦ subst (AreCells (point_count shape)) (sym (old_row n below ne)) (are.each n below)
    ];
  }

  pub turned-put : turned_shown shape (set words at word) ≡ set (turned_shown shape words) s (set (image_in (turned_shown shape words) s) point stone)
  turned-put =
      let images = turned_shown shape words in
      let put = set (image_in (turned_shown shape words) s) point stone in
      let own : image_in (turned_shown shape words) s ≡ cells_of (point_count shape) (words_at (words_for (point_count shape)) s words) = get_or-turned shape words s _ lt in
      same_lists (turned_shown shape (set words at word)) (set (turned_shown shape words) s (set (image_in (turned_shown shape words) s) point stone))
      (length-turned shape (set words at word) ∙ sym (length-set images s put ∙ length-turned shape words))
      (λ k d within.
      let below : k < symmetries_of shape = omega (arith, within, length-turned shape (set words at word)) in
      get_or-turned shape (set words at word) k d below
      ∙ elim (cases_eq k s) [
        | inl e ↦
            ap (λ i. cells_of (point_count shape) (words_at (words_for (point_count shape)) i (set words at word))) e
            ∙ ap (cells_of (point_count shape)) new_row ∙ made.1 ∙ ap (λ (p : Position). set p point stone) (sym own)
            ∙ sym (ap (λ i. get_or (set images s put) i d) e ∙ get_or-set_same images s put d (omega (arith, lt, length-turned shape words)))
        | inr ne ↦
            ap (cells_of (point_count shape)) (old_row k below ne)
            ∙ sym (get_or-set_other images s k put d ne ∙ get_or-turned shape words k d below)
      ])

-- ---- the words of an image, as they are read

pub words-read : (shape now : Shape) (words given : List ℕ) (images : List Position) (start room points s : ℕ) → shape ≡ now → turned_shown shape words ≡ images → given ≡ words → points ≡ point_count shape → room ≡ words_for points → start ≡ words_for (point_count now) * s → s < symmetries_of now
    → cells_of (point_count now) (take (start + room - start) (drop start given)) ≡ image_in images s
words-read shape now words given images start room points s same shown read counted roomed begun lt =
    let many : start + room - start ≡ words_for (point_count shape) = omega (arith, roomed, ap words_for counted) in
    let from : start ≡ words_for (point_count shape) * s = begun ∙ ap (λ (t : Shape). words_for (point_count t) * s) (sym same) in
    ap (λ (t : Shape). cells_of (point_count t) (take (start + room - start) (drop start given))) (sym same)
    ∙ ap (λ (ws : List ℕ). cells_of (point_count shape) (take (start + room - start) (drop start ws))) read
    ∙ ap (λ k. cells_of (point_count shape) (take k (drop start words))) many
    ∙ ap (λ k. cells_of (point_count shape) (take (words_for (point_count shape)) (drop k words))) from
    ∙ sym (get_or-turned shape words s _ (subst (λ (t : Shape). s < symmetries_of t) (sym same) lt))
    ∙ ap (λ (is : List Position). image_in is s) shown

-- ---- no stone

module _ (shape : Shape) (words : List ℕ) (none : ◌≡◌ {A = List ℕ} words (replicate (words_for (point_count shape) * symmetries_of shape) 0)) where
  room_none : length words ≡ words_for (point_count shape) * symmetries_of shape
  room_none = ap length none ∙ length-replicate {A = ℕ} (words_for (point_count shape) * symmetries_of shape) 0

  row_none : (n : ℕ) → n < symmetries_of shape → ◌≡◌ {A = List ℕ} (words_at (words_for (point_count shape)) n words) (replicate (words_for (point_count shape)) 0)
  row_none n lt =
      let row = length-row (words_for (point_count shape)) (symmetries_of shape) words room_none n lt in
      same_lists (words_at (words_for (point_count shape)) n words) (replicate (words_for (point_count shape)) 0)
      (row ∙ sym (length-replicate {A = ℕ} (words_for (point_count shape)) 0))
      (λ k d within.
      let small : k < words_for (point_count shape) = omega (arith, within, row) in
      let below : words_for (point_count shape) * n + k < words_for (point_count shape) * symmetries_of shape = omega (arith, small, row_within (words_for (point_count shape)) n (symmetries_of shape) lt) in
      get_or-row (words_for (point_count shape)) (symmetries_of shape) words room_none n lt k d small
      ∙ ap (λ (ws : List ℕ). get_or ws (words_for (point_count shape) * n + k) d) none
      ∙ get_or-replicate (words_for (point_count shape) * symmetries_of shape) (words_for (point_count shape) * n + k) 0 d below
      ∙ sym (get_or-replicate (words_for (point_count shape)) k 0 d small))

  pub AreTurned-none : AreTurned shape words
  AreTurned-none = record { room = room_none; each = λ n lt. AreCells-none (point_count shape) (words_at (words_for (point_count shape)) n words) (row_none n lt) }

  pub images-none : AreImages shape (empty_board shape) (turned_shown shape words)
  images-none = record {
    count = length-turned shape words;
    each = λ n below.
        let lt : n < symmetries_of shape = omega (arith, below, length-turned shape words) in
        let allowed = symmetry-allowed shape n lt in
        let empty : image_in (turned_shown shape words) n ≡ empty_board shape =
        get_or-turned shape words n _ lt
        ∙ none_there (point_count shape) (words_at (words_for (point_count shape)) n words) (λ p. subst (λ ws. digit_at ws p ≡ 0) (sym (row_none n lt)) (no_digit (words_for (point_count shape)) p)) in
        subst (λ (x : Position). Brings shape n (empty_board shape) x) (sym empty) (Brings-empty shape n allowed.0 allowed.1);
  }
