-- Placements listed class by class, and parted into rows.
use Rattle.std.proofs.Common.{◌-◌, ◌≡◌, ◌≢◌, ◌⊎◌, ℕ, ◌+◌, ◌<◌, ◌≤◌, ◌++◌, ◌∷◌, [], List, length, slice_index, refl, sym, ap, ◌∙◌, subst, arith, inl, inr}
use Rattle.std.proofs.Math.Seq.{get_or-append_seam}
use Rattle.std.proofs.lemmas.Bool.{cases_eq, cases_lt}
use Rattle.std.proofs.lemmas.List.{get_or_append_left, get_or_default, length_push}
use Rattle.pattern_images.specs.ImageList.{AreDistinct, AreImages, ImageList, no_grid, no_placement, placement_at}
use Rattle.ready_images.specs.Wants.{base_of}
use Rattle.ready_images.specs.declared.row.Row.{Row}
use Rattle.ready_images.specs.Placing.{ArePlacedTo, IsLastRowLonger, IsRowGrown}
use Rattle.ready_images.specs.Rows.{AreRowsOf, AreRowsTo, EndAt, HasClass, IsRowIn, no_row, row_at}

-- ---- class by class

module _ (images : ImageList) where
  -- a placement has one class
  pub class-once : AreDistinct images.grids → (i c d : ℕ) → HasClass images i c → HasClass images i d → c ≡ d
  class-once different i c d one other = different c d one.in_range other.in_range (one.cells ∙ sym other.cells)

  pub placed-start : ArePlacedTo images 0 0 []
  placed-start = record {
    sound = λ k lt. absurd (omega (arith, lt));
    complete = λ i c lt has before. elim before [ inl less ↦ absurd (omega (arith, less)) | inr here ↦ absurd (omega (arith, here.1)) ];
    once = λ j k lt. absurd (omega (arith, lt));
  }

  pub placed-next : (class : ℕ) (numbers : List ℕ) → ArePlacedTo images class (length images.placements) numbers → ArePlacedTo images (class + 1) 0 numbers
  placed-next class numbers are = record {
    sound = λ k lt.
        let h = are.sound k lt in
        (h.0, (h.1.0, h.1.1, elim h.1.2 [ inl less ↦ inl (omega (arith, less)) | inr here ↦ inl (omega (arith, here.0)) ]));
    complete = λ i c lt has before. elim before [
      | inr here ↦ absurd (omega (arith, here.1))
      | inl less ↦ elim (cases_lt c class) [
        | inl below ↦ are.complete i c lt has (inl below)
        | inr from ↦ are.complete i c lt has (inr (omega (arith, less, from), lt))
      ]
    ];
    once = are.once;
  }

  module _ (different : AreDistinct images.grids) (class i : ℕ) (numbers : List ℕ) (are : ArePlacedTo images class i numbers) where
    -- a placement of another class
    pub placed-skip : (c : ℕ) → HasClass images i c → c ≢ class → ArePlacedTo images class (i + 1) numbers
    placed-skip c has other = record {
      sound = λ k lt.
          let h = are.sound k lt in
          (h.0, (h.1.0, h.1.1, elim h.1.2 [ inl less ↦ inl less | inr here ↦ inr (here.0, omega (arith, here.1)) ]));
      complete = λ j d lt is before. elim before [
        | inl less ↦ are.complete j d lt is (inl less)
        | inr here ↦ elim (cases_lt j i) [
          | inl below ↦ are.complete j d lt is (inr (here.0, below))
          | inr from ↦
              let same : j ≡ i = omega (arith, here.1, from) in
              absurd (other (class-once different i c d has (subst (λ (n : ℕ). HasClass images n d) same is) ∙ here.0))
        ]
      ];
      once = are.once;
    }

    -- a placement of the class
    module _ (within : i < length images.placements) (has : HasClass images i class) where
      abbrev more : List ℕ
      more = numbers ++ i ∷ []

      low : (k : ℕ) → k < length numbers → slice_index more k ≡ slice_index numbers k
      low k lt = get_or_append_left numbers (i ∷ []) 0 k lt

      last : (k : ℕ) → k < length more → length numbers ≤ k → (length numbers ≡ k) × (slice_index more k ≡ i)
      last k lt from =
          let at : length numbers ≡ k = omega (arith, lt, from, length_push numbers i) in
          (at, ap (λ (j : ℕ). slice_index more j) (sym at) ∙ get_or-append_seam numbers i [] 0)

      new-number : (j : ℕ) → j < length numbers → slice_index numbers j ≢ i
      new-number j lt is =
          let h = are.sound j lt in
          elim h.1.2 [
            | inl less ↦
                let same : h.1.0 ≡ class = class-once different i h.1.0 class (subst (λ (n : ℕ). HasClass images n h.1.0) is h.1.1) has in
                omega (arith, less, same)
            | inr here ↦ omega (arith, here.1, is)
          ]

      -- what is told of a number of the list
      abbrev IsTold : ℕ → Type 0
      IsTold n = (n < length images.placements) × ((c : ℕ) × HasClass images n c × ((c < class) ⊎ ((c ≡ class) × (n < i + 1))))

      pub placed-more : ArePlacedTo images class (i + 1) more
      placed-more = record {
        sound = λ k lt. elim (cases_lt k (length numbers)) [
          | inl below ↦
              let h = are.sound k below in
              subst IsTold (sym (low k below)) (h.0, (h.1.0, h.1.1, elim h.1.2 [ inl less ↦ inl less | inr here ↦ inr (here.0, omega (arith, here.1)) ]))
          | inr from ↦ subst IsTold (sym (last k lt from).1) (within, (class, has, inr (refl, omega arith)))
        ];
        complete = λ j d lt is before.
            let those : ((d < class) ⊎ ((d ≡ class) × (j < i))) → (k : ℕ) × (k < length more) × (slice_index more k ≡ j) =
            λ earlier. let h = are.complete j d lt is earlier in (h.0, omega (arith, h.1, length_push numbers i), low h.0 h.1 ∙ h.2) in
            elim before [
              | inl less ↦ those (inl less)
              | inr here ↦ elim (cases_lt j i) [
                | inl below ↦ those (inr (here.0, below))
                | inr from ↦
                    let same : i ≡ j = omega (arith, here.1, from) in
                    (length numbers, omega (arith, length_push numbers i), get_or-append_seam numbers i [] 0 ∙ same)
              ]
            ];
        once = λ j k lt lt' same. elim (cases_lt j (length numbers)) [
          | inl one ↦ elim (cases_lt k (length numbers)) [
            | inl two ↦ are.once j k one two (sym (low j one) ∙ same ∙ low k two)
            | inr from ↦ absurd (new-number j one (sym (low j one) ∙ same ∙ (last k lt' from).1))
          ]
          | inr from ↦ elim (cases_lt k (length numbers)) [
            | inl two ↦ absurd (new-number k two (sym (low k two) ∙ sym same ∙ (last j lt from).1))
            | inr from' ↦ sym (last j lt from).0 ∙ (last k lt' from').0
          ]
        ];
      }

-- ---- parted into rows

end-same : (rows rows' : List Row) (r n : ℕ) → ((q : ℕ) → q < r → row_at rows' q ≡ row_at rows q) → EndAt rows r n → EndAt rows' r n
end-same rows rows' r n same ends =
    (ends.0, λ q is. ends.1 q is ∙ ap (λ (row : Row). row.start + row.count) (sym (same q (omega (arith, is)))))

pub end-once : (rows : List Row) (r n m : ℕ) → EndAt rows r n → EndAt rows r m → n ≡ m
end-once rows r n m ends ends' = elim (cases_eq r 0) [
  | inl none ↦ ends.0 none ∙ sym (ends'.0 none)
  | inr some ↦ let is : r ≡ r - 1 + 1 = omega (arith, some) in ends.1 (r - 1) is ∙ sym (ends'.1 (r - 1) is)
]

pub end-of : (rows : List Row) (q n : ℕ) → n ≡ (row_at rows q).start + (row_at rows q).count → EndAt rows (q + 1) n
end-of rows q n is = (λ none. absurd (omega (arith, none)), λ p same. let here : q ≡ p = omega (arith, same) in is ∙ ap (λ (k : ℕ). (row_at rows k).start + (row_at rows k).count) here)

pub end-none : (rows : List Row) → EndAt rows 0 0
end-none rows = (λ none. refl, λ q is. absurd (omega (arith, is)))

module _ (images : ImageList) where
  pub rows-start : AreRowsTo images [] []
  rows-start = record { each = λ r lt. absurd (omega (arith, lt)); parted = λ r lt. absurd (omega (arith, lt)); whole = end-none [] }

  module _ (numbers : List ℕ) (rows : List Row) (are : AreRowsTo images numbers rows) (class base i : ℕ) (has : HasClass images i class) (at_base : base ≡ base_of images.shape (placement_at images.placements i)) where
    abbrev longer : List ℕ
    longer = numbers ++ i ∷ []

    count : length longer ≡ length numbers + 1
    count = length_push numbers i

    kept-number : (k : ℕ) → k < length numbers → slice_index longer k ≡ slice_index numbers k
    kept-number k lt = get_or_append_left numbers (i ∷ []) 0 k lt

    last-number : (k : ℕ) → length numbers ≡ k → slice_index longer k ≡ i
    last-number k at = ap (λ (j : ℕ). slice_index longer j) (sym at) ∙ get_or-append_seam numbers i [] 0

    -- a row of the numbers so far
    row-kept : (row : Row) → IsRowIn images numbers row → IsRowIn images longer row
    row-kept row is = record {
      some = is.some;
      within = omega (arith, is.within, count);
      classes = λ k lt. subst (λ (n : ℕ). HasClass images n row.class) (sym (kept-number (row.start + k) (omega (arith, is.within, lt)))) (is.classes k lt);
      bases = λ k lt. is.bases k lt ∙ ap (λ (n : ℕ). base_of images.shape (placement_at images.placements n)) (sym (kept-number (row.start + k) (omega (arith, is.within, lt))));
    }

    -- ---- a new row

    abbrev first_one : Row
    first_one = record { class = class; base = base; start = length numbers; count = 1 }

    abbrev pushed : List Row
    pushed = rows ++ first_one ∷ []

    pushed-low : (r : ℕ) → r < length rows → row_at pushed r ≡ row_at rows r
    pushed-low r lt = get_or_append_left rows (first_one ∷ []) no_row r lt

    pushed-last : (r : ℕ) → r < length pushed → length rows ≤ r → (length rows ≡ r) × (row_at pushed r ≡ first_one)
    pushed-last r lt from =
        let at : length rows ≡ r = omega (arith, lt, from, length_push rows first_one) in
        (at, ap (λ (q : ℕ). row_at pushed q) (sym at) ∙ get_or-append_seam rows first_one [] no_row)

    first-is : IsRowIn images longer first_one
    first-is = record {
      some = omega arith;
      within = omega (arith, count);
      classes = λ k lt. subst (λ (n : ℕ). HasClass images n class) (sym (last-number (length numbers + k) (omega (arith, lt)))) has;
      bases = λ k lt.
          let same : base + k ≡ base = omega (arith, lt) in
          same ∙ at_base ∙ ap (λ (n : ℕ). base_of images.shape (placement_at images.placements n)) (sym (last-number (length numbers + k) (omega (arith, lt))));
    }

    rows-pushed : AreRowsTo images longer pushed
    rows-pushed = record {
      each = λ r lt. elim (cases_lt r (length rows)) [
        | inl below ↦ subst (IsRowIn images longer) (sym (pushed-low r below)) (row-kept (row_at rows r) (are.each r below))
        | inr from ↦ subst (IsRowIn images longer) (sym (pushed-last r lt from).1) first-is
      ];
      parted = λ r lt. elim (cases_lt r (length rows)) [
        | inl below ↦ end-same rows pushed r (row_at pushed r).start (λ q less. pushed-low q (omega (arith, less, below)))
            (subst (EndAt rows r) (ap (λ (row : Row). row.start) (sym (pushed-low r below))) (are.parted r below))
        | inr from ↦
            let at = pushed-last r lt from in
            end-same rows pushed r (row_at pushed r).start (λ q less. pushed-low q (omega (arith, less, at.0)))
            (subst (EndAt rows r) (ap (λ (row : Row). row.start) (sym at.1)) (subst (λ (q : ℕ). EndAt rows q (length numbers)) at.0 are.whole))
      ];
      whole = subst (λ (r : ℕ). EndAt pushed r (length longer)) (sym (length_push rows first_one))
          (end-of pushed (length rows) (length longer) (count ∙ ap (λ (row : Row). row.start + row.count) (sym (get_or-append_seam rows first_one [] no_row))));
    }

    -- ---- the last row gains a placement

    module _ (next : List Row) (is : IsLastRowLonger class base rows next) where
      abbrev old_row : Row
      old_row = row_at rows is.last

      old-is : IsRowIn images numbers old_row
      old-is = are.each is.last (omega (arith, is.at_end))

      -- the row ends where the numbers do
      ends : length numbers ≡ old_row.start + old_row.count
      ends = are.whole.1 is.last is.at_end

      abbrev new_row : Row
      new_row = record old_row { count = old_row.count + 1 }

      new-is : IsRowIn images longer new_row
      new-is = record {
        some = omega arith;
        within = omega (arith, ends, count);
        classes = λ k lt. elim (cases_lt k old_row.count) [
          | inl below ↦ (row-kept old_row old-is).classes k below
          | inr from ↦ subst (λ (n : ℕ). HasClass images n old_row.class) (sym (last-number (old_row.start + k) (omega (arith, ends, lt, from)))) (subst (HasClass images i) (sym is.class_is) has)
        ];
        bases = λ k lt. elim (cases_lt k old_row.count) [
          | inl below ↦ (row-kept old_row old-is).bases k below
          | inr from ↦
              let same : old_row.base + k ≡ base = omega (arith, is.base_is, lt, from) in
              same ∙ at_base ∙ ap (λ (n : ℕ). base_of images.shape (placement_at images.placements n)) (sym (last-number (old_row.start + k) (omega (arith, ends, lt, from))))
        ];
      }

      start-same : (r : ℕ) → r < length next → (row_at next r).start ≡ (row_at rows r).start
      start-same r lt = elim (cases_lt r is.last) [
        | inl below ↦ ap (λ (row : Row). row.start) (is.others r below)
        | inr from ↦
            let at : is.last ≡ r = omega (arith, lt, from, is.same_length, is.at_end) in
            subst (λ (q : ℕ). (row_at next q).start ≡ (row_at rows q).start) at (ap (λ (row : Row). row.start) is.longer)
      ]

      rows-longer : AreRowsTo images longer next
      rows-longer = record {
        each = λ r lt. elim (cases_lt r is.last) [
          | inl below ↦ subst (IsRowIn images longer) (sym (is.others r below)) (row-kept (row_at rows r) (are.each r (omega (arith, below, is.at_end))))
          | inr from ↦
              let at : is.last ≡ r = omega (arith, lt, from, is.same_length, is.at_end) in
              subst (λ (q : ℕ). IsRowIn images longer (row_at next q)) at (subst (IsRowIn images longer) (sym is.longer) new-is)
        ];
        parted = λ r lt.
            end-same rows next r (row_at next r).start (λ q less. is.others q (omega (arith, less, lt, is.same_length, is.at_end)))
            (subst (EndAt rows r) (sym (start-same r lt)) (are.parted r (omega (arith, lt, is.same_length))));
        whole =
            let e : length longer ≡ old_row.start + (old_row.count + 1) = omega (arith, count, ends) in
            subst (λ (r : ℕ). EndAt next r (length longer)) (sym (is.same_length ∙ is.at_end)) (end-of next is.last (length longer) (e ∙ ap (λ (row : Row). row.start + row.count) (sym is.longer)));
      }

    pub rows-grown : (next : List Row) → IsRowGrown class base (length numbers) rows next → AreRowsTo images longer next
    rows-grown next (inl is) = rows-longer next is
    rows-grown next (inr is) = subst (AreRowsTo images longer) (sym is) rows-pushed

  -- ---- all placements

  pub rows-all : (numbers : List ℕ) (rows : List Row) → AreImages images → ArePlacedTo images (length images.grids) 0 numbers → AreRowsTo images numbers rows → AreRowsOf images numbers rows
  rows-all numbers rows images-are placed are = record {
    in_range = λ k lt. (placed.sound k lt).0;
    complete = λ i lt.
        let (c, in_range, is) = images-are.classes i no_placement lt in
        let has : HasClass images i c = record { in_range = in_range; cells = get_or_default images.grids c no_grid (placement_at images.placements i).grid in_range ∙ is } in
        placed.complete i c lt has (inl in_range);
    once = placed.once;
    are_rows = are;
  }
