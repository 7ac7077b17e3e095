-- The placements of images are few: at most 16 stand at each point.
use Rattle.std.proofs.Common.{◌≡◌, ℕ, suc, zero, ◌+◌, ◌-◌, ◌*◌, ◌<◌, ◌≤◌, inl, inr, length, ap, arith}
use Rattle.std.proofs.Math.Nat.{mul-le-mul_right}
use Rattle.std.proofs.lemmas.Nat.{mul-add-lt}
use Rattle.std.proofs.lemmas.Bool.{cases_eq}
use Rattle.kb_geometry.specs.declared.shape.Shape.{Shape}
use Rattle.kb_geometry.specs.Board.{cols_of, point_count, rows_of}
use Rattle.kb_geometry.proofs.Shapes.{point_count-le-most}
use Rattle.pattern_images.specs.ImageList.{AreImages, ImageList, IsPlacedOn, no_placement, placement_at}
use Rattle.pattern_images.specs.Placements.{Placement, IsBefore}
use Rattle.ready_images.specs.Wants.{base_of}

-- of two placements in order the first stands at an earlier point, or under a lesser label
rises : (shape : Shape) (a b : Placement) → IsPlacedOn shape a → IsBefore a b → a.label < 16 → 16 * base_of shape a + a.label < 16 * base_of shape b + b.label
rises shape a b placed (inl above) label =
    let rows : (a.y + 1) * cols_of shape ≤ b.y * cols_of shape = mul-le-mul_right (cols_of shape) (omega arith) in
    omega (arith, placed.columns, placed.some_column)
rises shape a b placed (inr (same_row, inl left)) label = let e : a.y * cols_of shape ≡ b.y * cols_of shape = ap (λ (y : ℕ). y * cols_of shape) same_row in omega arith
rises shape a b placed (inr (same_row, inr (same, less))) label = let e : a.y * cols_of shape ≡ b.y * cols_of shape = ap (λ (y : ℕ). y * cols_of shape) same_row in omega arith

-- a placement's upper left point is on the board
base-lt : (shape : Shape) (a : Placement) → IsPlacedOn shape a → base_of shape a < point_count shape
base-lt shape a placed =
    let below : a.y * cols_of shape + a.x < cols_of shape * rows_of shape =
    mul-add-lt a.y (cols_of shape) a.x (rows_of shape) (omega (arith, placed.rows, placed.some_row)) (omega (arith, placed.columns, placed.some_column)) in
    omega arith

module _ (images : ImageList) (are : AreImages images) where
  -- the label of the placement with this number
  abbrev label_at : ℕ → ℕ
  label_at i = (placement_at images.placements i).label

  number-le : (i : ℕ) → i < length images.placements → i ≤ 16 * base_of images.shape (placement_at images.placements i) + label_at i
  number-le zero lt = omega arith
  number-le (suc i) lt =
      let before : i ≤ 16 * base_of images.shape (placement_at images.placements i) + label_at i = number-le i (omega arith) in
      let step = rises images.shape (placement_at images.placements i) (placement_at images.placements (suc i)) (are.placed i no_placement (omega arith)) (are.ordered i (suc i) no_placement (omega arith) lt) (are.labels i no_placement (omega arith)) in
      omega (arith, before, step)

  -- the number of a placement
  pub number-small : (i : ℕ) → i < length images.placements → i < 65536
  number-small i lt =
      omega (arith, number-le i lt, are.labels i no_placement lt, base-lt images.shape (placement_at images.placements i) (are.placed i no_placement lt), point_count-le-most images.shape)

  pub few_placements : length images.placements ≤ 65536
  few_placements = elim (cases_eq (length images.placements) 0) [
    | inl none ↦ omega arith
    | inr some ↦
        let lt : length images.placements - 1 < length images.placements = omega arith in
        let small = number-small (length images.placements - 1) lt in
        omega (arith, small)
  ]
