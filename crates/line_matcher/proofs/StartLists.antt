-- Placements in order, cut at each point.
use Rattle.std.proofs.Common.{◌≡◌, ℕ, suc, zero, ◌+◌, ◌-◌, ◌*◌, ◌<◌, ◌≤◌, inl, inr, List, [], ◌∷◌, ◌++◌, length, slice_index, refl, sym, ap, ◌∙◌, arith, subst}
use Rattle.std.proofs.Math.Nat.{mul-le-mul_right}
use Rattle.std.proofs.lemmas.Nat.{mul-add-lt}
use Rattle.std.proofs.lemmas.Bool.{cases_eq, cases_lt}
use Rattle.std.proofs.lemmas.List.{length_push, get_or_append_left, get_or_push}
use Rattle.kb_geometry.specs.declared.shape.Shape.{Shape}
use Rattle.kb_geometry.specs.Board.{cols_of, point_count, rows_of}
use Rattle.pattern_images.specs.ImageList.{AreImages, ImageList, IsPlacedOn, no_placement, placement_at}
use Rattle.pattern_images.specs.Placements.{Placement, IsBefore}
use Rattle.line_matcher.specs.Begins.{AreStarts, SplitsAt, corner_of}

-- of two placements in order the first begins at an earlier point, or under a lesser label
rises : (shape : Shape) (a b : Placement) → IsPlacedOn shape a → a.label < 16 → IsBefore a b → 16 * corner_of shape a + a.label < 16 * corner_of shape b + b.label
rises shape a b placed label (inl above) =
    let rows : (a.y + 1) * cols_of shape ≤ b.y * cols_of shape = mul-le-mul_right (cols_of shape) (omega arith) in
    omega (arith, placed.columns, placed.some_column)
rises shape a b placed label (inr (same_row, inl left)) = let e : a.y * cols_of shape ≡ b.y * cols_of shape = ap (λ (y : ℕ). y * cols_of shape) same_row in omega arith
rises shape a b placed label (inr (same_row, inr (same, less))) = let e : a.y * cols_of shape ≡ b.y * cols_of shape = ap (λ (y : ℕ). y * cols_of shape) same_row in omega arith

-- a placement's upper left point is on the board
corner_of-lt : (shape : Shape) (a : Placement) → IsPlacedOn shape a → corner_of shape a < point_count shape
corner_of-lt shape a placed =
    let below : a.y * cols_of shape + a.x < cols_of shape * rows_of shape =
    mul-add-lt a.y (cols_of shape) a.x (rows_of shape) (omega (arith, placed.rows, placed.some_row)) (omega (arith, placed.columns, placed.some_column)) in
    omega arith

module _ (images : ImageList) where
  abbrev first_at : ℕ → ℕ
  first_at i = corner_of images.shape (placement_at images.placements i)

  abbrev label_at : ℕ → ℕ
  label_at i = (placement_at images.placements i).label

  module _ (are : AreImages images) where
    rises_at : (i j : ℕ) → i < j → j < length images.placements → 16 * first_at i + label_at i < 16 * first_at j + label_at j
    rises_at i j less lt =
        rises images.shape (placement_at images.placements i) (placement_at images.placements j) (are.placed i no_placement (omega arith)) (are.labels i no_placement (omega arith)) (are.ordered i j no_placement less lt)

    -- a placement's number is at most 16 times that of its point, and its label
    number-le : (i : ℕ) → i < length images.placements → i ≤ 16 * first_at i + label_at i
    number-le zero lt = omega arith
    number-le (suc i) lt = omega (arith, number-le i (omega arith), rises_at i (suc i) (omega arith) lt)

    -- so they are at most 16 times the points
    few_placements : length images.placements ≤ 16 * point_count images.shape
    few_placements =
        elim (cases_eq (length images.placements) 0) [
          | inl none ↦ omega arith
          | inr some ↦
              let last = length images.placements - 1 in
              let lt : last < length images.placements = omega arith in
              let on_board : first_at last < point_count images.shape = corner_of-lt images.shape (placement_at images.placements last) (are.placed last no_placement lt) in
              omega (arith, number-le last lt, are.labels last no_placement lt)
        ]

    -- the first placement that doesn't stand before a point
    pub SplitsAt-here : (p i : ℕ) → i < length images.placements → ((j : ℕ) → j < i → first_at j < p) → p ≤ first_at i → SplitsAt images.shape images.placements p i
    SplitsAt-here p i lt before here = record {
      most = omega arith;
      before = λ j j_lt. (
        before j,
        λ below. elim (cases_lt i j) [
          | inl behind ↦ absurd (omega (arith, rises_at i j behind j_lt, are.labels j no_placement j_lt))
          | inr le ↦ elim (cases_eq j i) [
            | inl same ↦ let e : first_at j ≡ first_at i = ap first_at same in absurd (omega arith)
            | inr other ↦ omega arith
          ]
        ],
      );
    }

  -- the first so many points, of which the last one has this start
  pub record HaveStartsTo (n next : ℕ) (starts : List ℕ) : Type 0 where
    pub count : length starts ≡ n
    pub each : (p : ℕ) → p < n → SplitsAt images.shape images.placements p (slice_index starts p)
    pub in_range : next ≤ length images.placements
    pub known : (i : ℕ) → i < next → first_at i < n

  pub HaveStartsTo-start : HaveStartsTo 0 0 []
  HaveStartsTo-start = record {
    count = refl;
    each = λ p lt. absurd (omega arith);
    in_range = omega arith;
    known = λ i lt. absurd (omega arith);
  }

  pub HaveStartsTo-more : (n next later : ℕ) (starts now : List ℕ) → HaveStartsTo n next starts → SplitsAt images.shape images.placements n later → now ≡ starts ++ later ∷ [] → HaveStartsTo (n + 1) later now
  HaveStartsTo-more n next later starts now have splits pushed = record {
    count = ap length pushed ∙ length_push starts later ∙ ap (λ (i : ℕ). i + 1) have.count;
    each = λ p lt. subst (λ (ss : List ℕ). SplitsAt images.shape images.placements p (slice_index ss p)) (sym pushed) (elim (cases_lt p n) [
      | inl below ↦ subst (SplitsAt images.shape images.placements p) (sym (get_or_append_left starts (later ∷ []) 0 p (omega (arith, have.count)))) (have.each p below)
      | inr last ↦
          let here : n ≡ p = omega arith in
          subst (SplitsAt images.shape images.placements p) (sym (get_or_push starts later 0 p (have.count ∙ here))) (subst (λ (q : ℕ). SplitsAt images.shape images.placements q later) here splits)
    ]);
    in_range = splits.most;
    known = λ i lt. let below = (splits.before i (omega (arith, splits.most))).0 lt in omega arith;
  }

  pub HaveStartsTo-end : AreImages images → (n next : ℕ) (starts : List ℕ) → HaveStartsTo n next starts → n ≡ point_count images.shape + 1 → AreStarts images.shape images.placements starts
  HaveStartsTo-end are n next starts have e = record {
    count = have.count ∙ e;
    each = λ p le. have.each p (omega arith);
    few = few_placements are;
  }
