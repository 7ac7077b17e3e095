-- Positions in words: a cell that is put, no stone, the order.
use Prim.Native.Nat.{zero}
use Rattle.std.proofs.Common.{◌≡◌, ◌≢◌, ℕ, suc, ◌+◌, ◌-◌, ◌*◌, ◌/◌, ◌%◌, ◌^◌, ◌<◌, inl, inr, List, length, get_or, set, replicate, refl, sym, ap, ◌∙◌, subst, arith}
use Rattle.std.proofs.Math.Nat.{zero-div}
use Rattle.std.proofs.lemmas.Bool.{cases_eq, cases_lt}
use Rattle.std.proofs.lemmas.List.{get_or-replicate, get_or-set_other, get_or-set_same, get_or_default, get_or_past, get_or_read, length-replicate, length-set, same_lists}
use Rattle.std.proofs.lemmas.List.FromFn.{get_or-map-range_with_len, length-map-range_with_len}
use Rattle.kb_geometry.specs.declared.stone.Cell.{Cell}
use Rattle.kb_geometry.specs.declared.stone.Cell.TheVariants as cell
use Rattle.kb_geometry.specs.Capture.{cell_at}
use Rattle.opening_tree.specs.Canonical.{IsBefore, rank_of}
use Rattle.opening_tree.specs.Packing.{AreCells, IsWithDigit, cell_with, cells_of, digit_at, digit_in, place_of, words_for}
use Rattle.std.specs.Cmp.Lexicographic.{slice_cmp}
use Rattle.std.specs.Ordering.{nat_cmp}
use Rattle.std.specs.declared.cmp.Ordering.TheVariants.{Less}
use Rattle.opening_tree.proofs.WordOrder.{IsLessAmong, IsListLess, lists_less, word_less}

pub length-cells_of : (points : ℕ) (words : List ℕ) → length (cells_of points words) ≡ points
unfolding cells_of
length-cells_of points words = length-map-range_with_len (λ p. cell_with (digit_at words p)) 0 points

pub get_or-cells_of : (points : ℕ) (words : List ℕ) (p : ℕ) (d : Cell) → p < points → get_or (cells_of points words) p d ≡ cell_with (digit_at words p)
unfolding cells_of
get_or-cells_of points words p d lt = get_or-map-range_with_len (λ q. cell_with (digit_at words q)) 0 points p p d lt (omega arith)

-- the bits of a cell tell the cell
pub cell_with-rank : (c : Cell) → cell_with (rank_of c) ≡ c
cell_with-rank cell.Empty = refl
cell_with-rank cell.Black = refl
cell_with-rank cell.White = refl

pub rank-cell_with : (n : ℕ) → n < 3 → rank_of (cell_with n) ≡ n
rank-cell_with zero lt = refl
rank-cell_with (suc zero) lt = refl
rank-cell_with (suc (suc zero)) lt = refl
rank-cell_with (suc (suc (suc n))) lt = absurd (omega arith)

-- ---- no stone

pub no_digit : (n p : ℕ) → digit_at (replicate n 0) p ≡ 0
no_digit n p =
    let word : ◌≡◌ {A = ℕ} (get_or (replicate n 0) (p / 32) 0) 0 = elim (cases_lt (p / 32) n) [ inl lt ↦ get_or-replicate n (p / 32) 0 0 lt | inr le ↦ get_or_past (replicate n 0) (p / 32) 0 (omega (arith, length-replicate {A = ℕ} n 0)) ] in
    ap (λ w. digit_in w (place_of p)) word ∙ ap (λ m. m % 4) (zero-div (2 ^ (2 * place_of p)))

pub none_there : (points : ℕ) (words : List ℕ) → ((p : ℕ) → digit_at words p ≡ 0) → cells_of points words ≡ replicate points cell.Empty
none_there points words none = same_lists (cells_of points words) (replicate points cell.Empty)
    (length-cells_of points words ∙ sym (length-replicate points cell.Empty))
    (λ k d lt.
    let within : k < points = omega (arith, lt, length-cells_of points words) in
    get_or-cells_of points words k d within ∙ ap cell_with (none k) ∙ sym (get_or-replicate points k cell.Empty d within))

pub AreCells-none : (points : ℕ) (words : List ℕ) → ◌≡◌ {A = List ℕ} words (replicate (words_for points) 0) → AreCells points words
AreCells-none points words is =
    let none : (p : ℕ) → digit_at words p ≡ 0 = λ p. subst (λ ws. digit_at ws p ≡ 0) (sym is) (no_digit (words_for points) p) in
    let word : (k : ℕ) → ◌≡◌ {A = ℕ} (get_or (replicate (words_for points) 0) k 0) 0 = λ k. elim (cases_lt k (words_for points)) [ inl lt ↦ get_or-replicate (words_for points) k 0 0 lt | inr le ↦ get_or_past (replicate (words_for points) 0) k 0 (omega (arith, length-replicate {A = ℕ} (words_for points) 0)) ] in
    record {
      room = ap length is ∙ length-replicate {A = ℕ} (words_for points) 0;
      fits = λ k. omega (arith, ap (λ (ws : List ℕ). get_or ws k 0) is, word k);
      cells = λ p. omega (arith, none p);
      rest = λ p le. none p;
    }

-- a list of zeros
pub all_zero : (n : ℕ) (xs : List ℕ) → length xs ≡ n → ((k : ℕ) → k < n → get_or xs k 0 ≡ 0) → ◌≡◌ {A = List ℕ} xs (replicate n 0)
all_zero n xs long zeros = same_lists xs (replicate n 0) (long ∙ sym (length-replicate {A = ℕ} n 0)) (λ k d lt.
    let within : k < n = omega (arith, lt, long) in
    get_or_default xs k d 0 lt ∙ zeros k within ∙ sym (get_or-replicate n k 0 d within))

-- ---- a cell that is put

module _ (points : ℕ) (words : List ℕ) (are : AreCells points words) (point : ℕ) (lt : point < points) (stone : Cell) (word : ℕ) (is : IsWithDigit (get_or words (point / 32) 0) (place_of point) (rank_of stone) word) where
  new_words : List ℕ
  new_words = set words (point / 32) word

  there : point / 32 < length words
  there = omega (arith, are.room)

  pub digit-put : digit_at (set words (point / 32) word) point ≡ rank_of stone
  digit-put = ap (λ w. digit_in w (place_of point)) (get_or-set_same words (point / 32) word 0 there) ∙ is.here

  pub digit-kept : (p : ℕ) → p ≢ point → digit_at (set words (point / 32) word) p ≡ digit_at words p
  digit-kept p ne =
      elim (cases_eq (p / 32) (point / 32)) [
        | inl e ↦
            let place : place_of p ≢ place_of point = λ same. ne (omega (arith, e, same)) in
            let new : get_or (set words (point / 32) word) (p / 32) 0 ≡ word = ap (λ k. get_or (set words (point / 32) word) k 0) e ∙ get_or-set_same words (point / 32) word 0 there in
            ap (λ w. digit_in w (place_of p)) new ∙ is.others (place_of p) (omega arith) place ∙ ap (λ k. digit_in (get_or words k 0) (place_of p)) (sym e)
        | inr other ↦ ap (λ w. digit_in w (place_of p)) (get_or-set_other words (point / 32) (p / 32) word 0 other)
      ]

  pub cells-put : cells_of points (set words (point / 32) word) ≡ set (cells_of points words) point stone
  cells-put = same_lists (cells_of points (set words (point / 32) word)) (set (cells_of points words) point stone)
      (length-cells_of points (set words (point / 32) word) ∙ sym (length-set (cells_of points words) point stone ∙ length-cells_of points words))
      (λ k d below.
      let within : k < points = omega (arith, below, length-cells_of points (set words (point / 32) word)) in
      elim (cases_eq k point) [
        | inl e ↦
            get_or-cells_of points (set words (point / 32) word) k d within
            ∙ ap (λ j. cell_with (digit_at (set words (point / 32) word) j)) e ∙ ap cell_with digit-put ∙ cell_with-rank stone
            ∙ sym (ap (λ j. get_or (set (cells_of points words) point stone) j d) e ∙ get_or-set_same (cells_of points words) point stone d (omega (arith, lt, length-cells_of points words)))
        | inr ne ↦
            get_or-cells_of points (set words (point / 32) word) k d within ∙ ap cell_with (digit-kept k ne)
            ∙ sym (get_or-set_other (cells_of points words) point k stone d ne ∙ get_or-cells_of points words k d within)
      ])

  rank-lt : (c : Cell) → rank_of c < 3
  rank-lt cell.Empty = omega arith
  rank-lt cell.Black = omega arith
  rank-lt cell.White = omega arith

  pub AreCells-put : word < 2 ^ 64 → AreCells points (set words (point / 32) word)
  AreCells-put fits = record {
    room = length-set words (point / 32) word ∙ are.room;
    fits = λ k. elim (cases_eq k (point / 32)) [
      | inl e ↦ omega (arith, ap (λ j. get_or (set words (point / 32) word) j 0) e, get_or-set_same words (point / 32) word 0 there)
      | inr ne ↦ omega (arith, get_or-set_other words (point / 32) k word 0 ne, are.fits k)
    ];
    cells = λ p. elim (cases_eq p point) [
      | inl e ↦ omega (arith, ap (digit_at (set words (point / 32) word)) e, digit-put, rank-lt stone)
      | inr ne ↦ omega (arith, digit-kept p ne, are.cells p)
    ];
    rest = λ p le. digit-kept p (λ e. omega (arith, e, le, lt)) ∙ are.rest p le;
  }

-- ---- the order

module _ (points : ℕ) (xs ys : List ℕ) (are_xs : AreCells points xs) (are_ys : AreCells points ys) (list : IsListLess xs ys) where
  digits : IsLessAmong (get_or xs list.at 0) (get_or ys list.at 0) 32
  digits = word_less (get_or xs list.at 0) (get_or ys list.at 0) (are_ys.fits list.at) list.less

  point : ℕ
  point = 32 * list.at + digits.at

  pub IsBefore-words : IsBefore (cells_of points xs) (cells_of points ys)
  unfolding point digits
  IsBefore-words =
      let d = digits.at in
      let p = 32 * list.at + d in
      let low : d < 32 = digits.within in
      let row : p / 32 ≡ list.at = omega (arith, low) in
      let place : place_of p ≡ 31 - d = omega (arith, low) in
      let of_xs : digit_at xs p ≡ digit_in (get_or xs list.at 0) (31 - d) = ap (λ k. digit_in (get_or xs k 0) (place_of p)) row ∙ ap (digit_in (get_or xs list.at 0)) place in
      let of_ys : digit_at ys p ≡ digit_in (get_or ys list.at 0) (31 - d) = ap (λ k. digit_in (get_or ys k 0) (place_of p)) row ∙ ap (digit_in (get_or ys list.at 0)) place in
      let less : digit_at xs p < digit_at ys p = omega (arith, of_xs, of_ys, digits.less) in
      let within : p < points = elim (cases_lt p points) [ inl lt ↦ lt | inr le ↦ absurd (omega (arith, are_ys.rest p le, less)) ] in
      let same : (q : ℕ) → q < p → digit_at xs q ≡ digit_at ys q = λ q lt.
      elim (cases_lt (q / 32) list.at) [
        | inl above ↦ ap (λ w. digit_in w (place_of q)) (list.same (q / 32) above)
        | inr le ↦
            let here : q / 32 ≡ list.at = omega (arith, le, lt, low) in
            let small : q % 32 < d = omega (arith, here, lt) in
            ap (λ k. digit_in (get_or xs k 0) (place_of q)) here ∙ digits.same (q % 32) small ∙ ap (λ k. digit_in (get_or ys k 0) (place_of q)) (sym here)
      ] in
      record {
        point = p;
        same_before = λ q lt.
            get_or-cells_of points xs q cell.Empty (omega (arith, lt, within)) ∙ ap cell_with (same q lt) ∙ sym (get_or-cells_of points ys q cell.Empty (omega (arith, lt, within)));
        less_there =
            let rx : rank_of (cell_at (cells_of points xs) p) ≡ digit_at xs p = ap rank_of (get_or-cells_of points xs p cell.Empty within) ∙ rank-cell_with (digit_at xs p) (are_xs.cells p) in
            let ry : rank_of (cell_at (cells_of points ys) p) ≡ digit_at ys p = ap rank_of (get_or-cells_of points ys p cell.Empty within) ∙ rank-cell_with (digit_at ys p) (are_ys.cells p) in
            omega (arith, rx, ry, less);
      }

-- what the code computes for a cell that is put
pub put-made : (points : ℕ) (words : List ℕ) → AreCells points words → (point : ℕ) → point < points → (stone : Cell) (at word old place digit : ℕ) → at ≡ point / 32 → old ≡ get_or words at old → place ≡ place_of point → digit ≡ rank_of stone → IsWithDigit old place digit word → word < 2 ^ 64 → AreCells points (set words at word) × (cells_of points (set words at word) ≡ set (cells_of points words) point stone)
put-made points words are point lt stone at word old place digit e_at e_old e_place e_digit is fits =
    let there : at < length words = omega (arith, e_at, are.room, lt) in
    let read : old ≡ get_or words (point / 32) 0 = get_or_read words at old there e_old 0 ∙ ap (λ k. get_or words k 0) e_at in
    let own : IsWithDigit (get_or words (point / 32) 0) (place_of point) (rank_of stone) word =
    subst (λ w. IsWithDigit w (place_of point) (rank_of stone) word) read (subst (λ p. IsWithDigit old p (rank_of stone) word) e_place (subst (λ d. IsWithDigit old place d word) e_digit is)) in (
      subst (λ k. AreCells points (set words k word)) (sym e_at) (AreCells-put points words are point lt stone word own fits),
      ap (λ k. cells_of points (set words k word)) e_at ∙ cells-put points words are point lt stone word own,
    )

-- the order of words is that of the positions
pub before-words : (m n : ℕ) (xs ys : List ℕ) → m ≡ n → AreCells m xs → AreCells n ys → slice_cmp nat_cmp xs ys ≡ Less → IsBefore (cells_of m xs) (cells_of n ys)
before-words m n xs ys e are_xs are_ys less =
    let ys_here : AreCells m ys = subst (λ k. AreCells k ys) (sym e) are_ys in
    subst (λ k. IsBefore (cells_of m xs) (cells_of k ys)) e (IsBefore-words m xs ys are_xs ys_here (lists_less xs ys (are_xs.room ∙ sym ys_here.room) less))
