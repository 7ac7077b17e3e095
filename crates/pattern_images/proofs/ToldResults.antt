-- Whether a query has a result with this label at this point of a board can be told: the label is one of the query or
-- not, and some base place gives the point or none does.
use Rattle.std.proofs.Common.{◌≡◌, ◌≤◌, ◌<◌, ◌+◌, inl, inr, ℕ, suc, Option, Some, None, refl, sym, ap, ◌∙◌, subst, arith}
use Rattle.std.specs.Prelude.{IfSome}
use Rattle.std.proofs.lemmas.Bool.{cases_eq, cases_lt}
use Rattle.kb_geometry.specs.declared.shape.Shape.{Shape}
use Rattle.kb_geometry.specs.declared.shape.Point.{Point}
use Rattle.kb_geometry.specs.declared.shape.Rect.{Rect}
use Rattle.kb_geometry.specs.Board.{cols_of, rows_of, IsInside}
use Rattle.kb_geometry.specs.Symmetry.{symmetry_of, point_of, IsAllowed, IsExchanging}
use Rattle.kb_geometry.proofs.Shapes.{shape_same}
use Rattle.kb_geometry.proofs.Symmetries.{same_point}
use Rattle.pattern_images.specs.declared.query.Query.{Query}
use Rattle.pattern_images.specs.Pattern.{grid_of, size_of}
use Rattle.pattern_images.specs.Placements.{Placement, IsImage, IsResult, IsSame}
use Rattle.pattern_images.specs.Query.{IsForBoard, IsLabelOf, IsBasePlace}
use Rattle.pattern_images.specs.Turned.{upper_left}
use Rattle.pattern_images.proofs.Frames.{Fits}
use Rattle.pattern_images.proofs.Tellings.{Told, told_below, told_both, told_grid, told_le, told_premise, least_below}
use Rattle.pattern_images.proofs.Turned.{image_of, image_of-image, image-only, same_placement, turned_grid}

told_board : (board : Option Shape) (shape : Shape) → Told (IfSome board (λ (b : Shape). b ≡ shape))
told_board None shape = inl tt
told_board (Some b) shape = elim (cases_eq (cols_of b) (cols_of shape)) [
  | inl cols ↦ elim (cases_eq (rows_of b) (rows_of shape)) [
    | inl rows ↦ inl (shape_same b shape cols rows)
    | inr other ↦ inr (λ e. other (ap (λ (s : Shape). rows_of s) e))
  ]
  | inr other ↦ inr (λ e. other (ap (λ (s : Shape). cols_of s) e))
]

told_allowed : (n : ℕ) (shape : Shape) → Told (IsAllowed n shape)
told_allowed n shape = elim (cases_lt n 4) [
  | inl few ↦ inl (λ le. absurd (omega arith))
  | inr le ↦ elim (cases_eq (cols_of shape) (rows_of shape)) [
    | inl square ↦ inl (λ _. square)
    | inr other ↦ inr (λ h. other (h le))
  ]
]

told_colours : (label : ℕ) → Told (IsExchanging label → ⊥)
told_colours label = elim (cases_lt label 8) [
  | inl kept ↦ inl (λ le. omega arith)
  | inr le ↦ inr (λ never. never le)
]

told_unmoved : (label : ℕ) → Told (symmetry_of label ≡ 0)
told_unmoved label = cases_eq (symmetry_of label) 0

told_inside : (at : Rect) (p : Point) → Told (IsInside at p)
told_inside at p =
    elim (told_le at.x0 p.x) [
      | inr never ↦ inr (λ h. never h.0)
      | inl left ↦ elim (told_le p.x at.x1) [
        | inr never ↦ inr (λ h. never h.1)
        | inl right ↦ elim (told_le at.y0 p.y) [
          | inr never ↦ inr (λ h. never h.2)
          | inl top ↦ elim (told_le p.y at.y1) [
            | inr never ↦ inr (λ h. never h.3)
            | inl bottom ↦ inl (left, right, top, bottom)
          ]
        ]
      ]
    ]

told_within : (at : Option Rect) (p : Point) → Told (IfSome at (λ (r : Rect). IsInside r p))
told_within None p = inl tt
told_within (Some r) p = told_inside r p

module _ (query : Query) (shape : Shape) where
  told_label : (label : ℕ) → Told (IsLabelOf query shape label)
  told_label label = elim (cases_lt label 16) [
    | inr le ↦ inr (λ h. let lt : label < 16 = h.in_range in omega arith)
    | inl few ↦ elim (told_allowed (symmetry_of label) shape) [
      | inr never ↦ inr (λ h. never h.allowed)
      | inl allowed ↦ elim (told_premise query.fixed (symmetry_of label ≡ 0) (told_unmoved label)) [
        | inr never ↦ inr (λ h. never h.unmoved)
        | inl unmoved ↦ elim (told_premise query.same (IsExchanging label → ⊥) (told_colours label)) [
          | inr never ↦ inr (λ h. never h.same_colours)
          | inl same ↦ inl (record { in_range = few; allowed = allowed; unmoved = unmoved; same_colours = same })
        ]
      ]
    ]
  ]

  told_base : (p : Point) → Told (IsBasePlace query shape p)
  told_base p = elim (told_le (p.x + (grid_of query.pattern).cols) (cols_of shape)) [
    | inr never ↦ inr (λ h. never h.columns)
    | inl columns ↦ elim (told_le (p.y + (grid_of query.pattern).rows) (rows_of shape)) [
      | inr never ↦ inr (λ h. never h.rows)
      | inl rows ↦ elim (told_within query.at p) [
        | inr never ↦ inr (λ h. never h.within)
        | inl within ↦ inl (record { columns = columns; rows = rows; within = within })
      ]
    ]
  ]

  -- the placement with the cells of a label at a point
  abbrev pub placement_by : ℕ → ℕ → ℕ → Placement
  placement_by label x y = record { label = label; x = x; y = y; grid = turned_grid label query.pattern }

  -- a result has the cells of its label
  pub result-is : (p : Placement) → IsResult query shape p → p.grid ≡ turned_grid p.label query.pattern
  result-is p result =
      let fits : Fits shape (size_of query.pattern) result.base = (result.at_base.columns, result.at_base.rows) in
      ap (λ (q : Placement). q.grid) (image-only query shape result.base p fits result.label.allowed result.image)

  -- the label moves the pattern from this base place to the point
  abbrev Gives : ℕ → ℕ → ℕ → Point → Type 0
  Gives label x y base =
      IsBasePlace query shape base × (upper_left (symmetry_of label) shape (size_of query.pattern) base ≡ point_of x y)

  told_gives : (label x y : ℕ) (base : Point) → Told (Gives label x y base)
  told_gives label x y base =
      let at : Point = upper_left (symmetry_of label) shape (size_of query.pattern) base in
      told_both (IsBasePlace query shape base) (at ≡ point_of x y) (told_base base) (elim (cases_eq at.x x) [
        | inr other ↦ inr (λ e. other (ap (λ (p : Point). p.x) e))
        | inl column ↦ elim (cases_eq at.y y) [
          | inr other ↦ inr (λ e. other (ap (λ (p : Point). p.y) e))
          | inl row ↦ inl (same_point at (point_of x y) column row)
        ]
      ])

  -- some base place of the board gives the point
  abbrev IsGiven : ℕ → ℕ → ℕ → Type 0
  IsGiven label x y =
      (by : ℕ) × (by < rows_of shape) × ((bx : ℕ) × (bx < cols_of shape) × Gives label x y (point_of bx by))

  told_given : (label x y : ℕ) → Told (IsGiven label x y)
  told_given label x y =
      told_below (λ by. (bx : ℕ) × (bx < cols_of shape) × Gives label x y (point_of bx by))
      (λ by. told_below (λ bx. Gives label x y (point_of bx by)) (λ bx. told_gives label x y (point_of bx by)) (cols_of shape))
      (rows_of shape)

  result-from : (label x y : ℕ) → IsForBoard query shape → IsLabelOf query shape label → IsGiven label x y →
      IsResult query shape (placement_by label x y)
  result-from label x y board is_label (by, by_lt, (bx, bx_lt, (at_base, at))) =
      let base : Point = point_of bx by in
      let fits : Fits shape (size_of query.pattern) base = (at_base.columns, at_base.rows) in
      let is : image_of query shape label base ≡ placement_by label x y =
      same_placement (image_of query shape label base) (placement_by label x y) refl
      (ap (λ (p : Point). p.x) at) (ap (λ (p : Point). p.y) at) refl in
      record {
        board = board;
        label = is_label;
        base = base;
        at_base = at_base;
        image = subst (λ (q : Placement). IsImage query shape base q) is
            (image_of-image query shape label base fits is_label.allowed);
      }

  result-given : (label x y : ℕ) → IsResult query shape (placement_by label x y) → IsGiven label x y
  result-given label x y result =
      let b : Point = result.base in
      let fits : Fits shape (size_of query.pattern) b = (result.at_base.columns, result.at_base.rows) in
      let is = image-only query shape b (placement_by label x y) fits result.label.allowed result.image in
      let at : upper_left (symmetry_of label) shape (size_of query.pattern) b ≡ point_of x y =
      ap (λ (q : Placement). point_of q.x q.y) (sym is) in
      let some = (size_of query.pattern).in_range in (
        b.y,
        omega (arith, result.at_base.rows, some.1.0),
        (b.x, omega (arith, result.at_base.columns, some.0.0), (result.at_base, at)),
      )

  pub told_result : (label x y : ℕ) → Told (IsResult query shape (placement_by label x y))
  told_result label x y = elim (told_board query.board shape) [
    | inr never ↦ inr (λ h. never h.board)
    | inl board ↦ elim (told_label label) [
      | inr never ↦ inr (λ h. never h.label)
      | inl is_label ↦ elim (told_given label x y) [
        | inr never ↦ inr (λ h. never (result-given label x y h))
        | inl given ↦ inl (result-from label x y board is_label given)
      ]
    ]
  ]

  -- ---- the least label that gives a placement

  -- another label gives the same cells at this point
  abbrev IsAlike : ℕ → ℕ → ℕ → ℕ → Type 0
  IsAlike label x y k =
      IsResult query shape (placement_by k x y)
      × (turned_grid label query.pattern ≡ turned_grid k query.pattern)

  told_alike : (label x y k : ℕ) → Told (IsAlike label x y k)
  told_alike label x y k =
      told_both (IsResult query shape (placement_by k x y)) (turned_grid label query.pattern ≡ turned_grid k query.pattern)
      (told_result k x y) (told_grid (turned_grid label query.pattern) (turned_grid k query.pattern))

  -- the label gives a placement at this point that never lesser label gives
  abbrev pub IsFirst : ℕ → ℕ → ℕ → Type 0
  IsFirst label x y =
      IsResult query shape (placement_by label x y) × ((j : ℕ) → j < label → IsAlike label x y j → ⊥)

  pub told_first : (label x y : ℕ) → Told (IsFirst label x y)
  told_first label x y = elim (told_result label x y) [
    | inr never ↦ inr (λ h. never h.0)
    | inl result ↦ elim (told_below (IsAlike label x y) (told_alike label x y) label) [
      | inl found ↦ inr (λ h. h.1 found.0 found.1 found.2)
      | inr none ↦ inl (result, λ j lt alike. none (j, lt, alike))
    ]
  ]

  -- a result at this point, as the placement of its label
  moved_result : (p : Placement) (x y : ℕ) → IsResult query shape p → p.x ≡ x → p.y ≡ y →
      IsResult query shape (placement_by p.label x y)
  moved_result p x y result column row =
      subst (IsResult query shape)
      (same_placement p (placement_by p.label x y) refl column row (result-is p result)) result

  pub first-least : (label x y : ℕ) → IsFirst label x y → (result : Placement) → IsResult query shape result →
      IsSame (placement_by label x y) result → label ≤ result.label
  first-least label x y first result is same = elim (cases_lt result.label label) [
    | inl lt ↦ absurd
        (first.1 result.label lt (moved_result result x y is (sym same.column) (sym same.row), same.grid ∙ result-is result is))
    | inr le ↦ le
  ]

  -- each result has a least label
  pub first-of : (p : Placement) → IsResult query shape p →
      (k : ℕ) × IsFirst k p.x p.y × IsSame p (placement_by k p.x p.y)
  first-of p result =
      elim (least_below (IsAlike p.label p.x p.y) (told_alike p.label p.x p.y) (suc p.label)) [
        | inl (k, lt, alike, none) ↦ (
          k,
          (alike.0, λ j less h. none j less (h.0, alike.1 ∙ h.1)),
          record { column = refl; row = refl; grid = result-is p result ∙ alike.1 },
        )
        | inr none ↦ absurd (none p.label (omega arith) (moved_result p p.x p.y result refl refl, refl))
      ]
