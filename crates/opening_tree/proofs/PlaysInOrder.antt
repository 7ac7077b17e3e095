-- What can be played on a board stands in order, and each move on the board is among it.
use Prim.Native.Nat.{zero}
use Rattle.std.proofs.Common.{◌≡◌, ℕ, suc, ◌+◌, ◌*◌, ◌/◌, ◌%◌, ◌<◌, ◌≤◌, inl, inr, List, [], ◌∷◌, ◌++◌, Option, Some, None, map, refl, ap, ◌∙◌, arith}
use Rattle.std.specs.Prelude.{IfSome}
use Rattle.std.specs.List.{range_with_len}
use Rattle.std.proofs.lemmas.Bool.{cases_eq, cases_order}
use Rattle.std.proofs.lemmas.Nat.{div-add-mod', div_below, mod_below}
use Rattle.kb_geometry.specs.declared.shape.Point.{Point}
use Rattle.kb_geometry.specs.declared.shape.Shape.{Shape}
use Rattle.kb_geometry.specs.declared.stone.Colour.{Colour}
use Rattle.kb_geometry.specs.declared.stone.Colour.TheVariants as colour
use Rattle.kb_geometry.specs.Board.{IsOnBoard, cols_of, number_of, point_count}
use Rattle.kb_geometry.specs.Symmetry.{point_of}
use Rattle.kb_geometry.proofs.Shapes.{number_of-lt-count}
use Rattle.game_tree.specs.declared.node.Move.{Move}
use Rattle.opening_tree.specs.Groups.{play_order}
use Rattle.opening_tree.specs.Openings.{plays_of, plays_on}
use Rattle.opening_tree.proofs.PositionImages.{number_of-point_with, point_with-on_board, same_point_from_number}
use Rattle.opening_tree.proofs.RowsGrow.{AreBehind, AreInOrder, IsOneOf, order_of}

-- all of some moves come before this order
abbrev AreBelow : ℕ → List Move → Type 0
AreBelow k [] = Unit
AreBelow k (q ∷ qs) = (order_of q < k) × AreBelow k qs

behind-weaker : (j k : ℕ) (qs : List Move) → j ≤ k → AreBehind k qs → AreBehind j qs
behind-weaker j k [] le behind = tt
behind-weaker j k (q ∷ qs) le behind = (omega (arith, le, behind.0), behind-weaker j k qs le behind.1)

behind-append : (k : ℕ) (xs ys : List Move) → AreBehind k xs → AreBehind k ys → AreBehind k (xs ++ ys)
behind-append k [] ys first second = second
behind-append k (x ∷ xs) ys first second = (first.0, behind-append k xs ys first.1 second)

below-append : (k : ℕ) (xs ys : List Move) → AreBelow k xs → AreBelow k ys → AreBelow k (xs ++ ys)
below-append k [] ys first second = second
below-append k (x ∷ xs) ys first second = (first.0, below-append k xs ys first.1 second)

below-weaker : (j k : ℕ) (qs : List Move) → j ≤ k → AreBelow j qs → AreBelow k qs
below-weaker j k [] le below = tt
below-weaker j k (q ∷ qs) le below = (omega (arith, le, below.0), below-weaker j k qs le below.1)

-- moves before an order, and then moves behind it
order-append : (k : ℕ) (xs ys : List Move) → AreInOrder xs → AreBelow (k + 1) xs → AreInOrder ys → AreBehind k ys → AreInOrder (xs ++ ys)
order-append k [] ys first below second behind = second
order-append k (x ∷ xs) ys first below second behind = (
  behind-append (order_of x) xs ys first.0 (behind-weaker (order_of x) k ys (omega (arith, below.0)) behind),
  order-append k xs ys first.1 below.1 second behind,
)

one-left : (m : Move) (xs ys : List Move) → IsOneOf m xs → IsOneOf m (xs ++ ys)
one-left m [] ys is = absurd is
one-left m (x ∷ xs) ys (inl e) = inl e
one-left m (x ∷ xs) ys (inr later) = inr (one-left m xs ys later)

one-right : (m : Move) (xs ys : List Move) → IsOneOf m ys → IsOneOf m (xs ++ ys)
one-right m [] ys is = is
one-right m (x ∷ xs) ys is = inr (one-right m xs ys is)

-- points by their numbers
later_place : (c j k : ℕ) → 0 < c → c ≤ 52 → j < k → j / c * 256 + j % c < k / c * 256 + k % c
later_place c j k some few lt =
    let of_j = div-add-mod' j c in
    let of_k = div-add-mod' k c in
    let small_j = mod_below j c some in
    let small_k = mod_below k c some in
    elim (cases_order (j / c) (k / c)) [
      | inl e ↦ let same : j / c * c ≡ k / c * c = ap (λ q. q * c) e in omega (arith, e, same, of_j, of_k, lt)
      | inr other ↦ elim other [
        | inl less ↦ omega (arith, less, small_j, few)
        | inr more ↦
            let next : (k / c + 1) * c ≡ k / c * c + c = omega arith in
            let below : j < (k / c + 1) * c = omega (arith, next, lt, of_k, small_k) in
            absurd (omega (arith, more, div_below j c (k / c + 1) some below))
      ]
    ]

module _ (shape : Shape) (side : Colour) where
  abbrev plays_at : List ℕ → List Move
  plays_at ks = map (λ (p : Point). record { colour = side; point = Some p }) (map (λ k. point_of (k % cols_of shape) (k / cols_of shape)) ks)

  abbrev play_at : ℕ → Move
  play_at k = record { colour = side; point = Some (point_of (k % cols_of shape) (k / cols_of shape)) }

  side_order : (c : Colour) (j k : ℕ) → j < k → play_order c (Some (point_of (j % cols_of shape) (j / cols_of shape))) < play_order c (Some (point_of (k % cols_of shape) (k / cols_of shape)))
  side_order colour.Black j k lt = later_place (cols_of shape) j k (omega (arith, shape.in_range.0.0)) (omega (arith, shape.in_range.0.1)) lt
  side_order colour.White j k lt = omega (arith, later_place (cols_of shape) j k (omega (arith, shape.in_range.0.0)) (omega (arith, shape.in_range.0.1)) lt)

  range-behind : (j a n : ℕ) → j < a → AreBehind (order_of (play_at j)) (plays_at (range_with_len a n))
  range-behind j a zero lt = tt
  range-behind j a (suc n) lt = (side_order side j a lt, range-behind j (a + 1) n (omega (arith, lt)))

  range-order : (a n : ℕ) → AreInOrder (plays_at (range_with_len a n))
  range-order a zero = tt
  range-order a (suc n) = (range-behind a (a + 1) n (omega arith), range-order (a + 1) n)

  range-one : (a n k : ℕ) (m : Move) → a ≤ k → k < a + n → play_at k ≡ m → IsOneOf m (plays_at (range_with_len a n))
  range-one a zero k m le lt is = absurd (omega (arith, le, lt))
  range-one a (suc n) k m le lt is = elim (cases_eq a k) [
    | inl e ↦ inl (ap play_at e ∙ is)
    | inr ne ↦ inr (range-one (a + 1) n k m (omega (arith, le, ne)) (omega (arith, lt)) is)
  ]

module _ (shape : Shape) where
  place_small : (k : ℕ) → k < point_count shape → k / cols_of shape * 256 + k % cols_of shape < 65536
  place_small k lt =
      let on = point_with-on_board shape k lt in
      omega (arith, on.0, on.1, shape.in_range.0.1, shape.in_range.1.1)

  black-below : (a n : ℕ) → a + n ≤ point_count shape → AreBelow 65536 (plays_at shape colour.Black (range_with_len a n))
  black-below a zero le = tt
  black-below a (suc n) le = (place_small a (omega (arith, le)), black-below (a + 1) n (omega (arith, le)))

  white-below : (a n : ℕ) → a + n ≤ point_count shape → AreBelow 196608 (plays_at shape colour.White (range_with_len a n))
  white-below a zero le = tt
  white-below a (suc n) le = (omega (arith, place_small a (omega (arith, le))), white-below (a + 1) n (omega (arith, le)))

  white-behind : (a n : ℕ) → AreBehind 65536 (plays_at shape colour.White (range_with_len a n))
  white-behind a zero = tt
  white-behind a (suc n) = (omega arith, white-behind (a + 1) n)

  abbrev pass_of : Colour → List Move
  pass_of side = record { colour = side; point = None } ∷ []

  black-order : AreInOrder (plays_of shape colour.Black)
  black-order = order-append 65535 (plays_at shape colour.Black (range_with_len 0 (point_count shape))) (pass_of colour.Black) (range-order shape colour.Black 0 (point_count shape)) (black-below 0 (point_count shape) (omega arith)) (tt, tt) (omega arith, tt)

  white-order : AreInOrder (plays_of shape colour.White)
  white-order = order-append 196607 (plays_at shape colour.White (range_with_len 0 (point_count shape))) (pass_of colour.White) (range-order shape colour.White 0 (point_count shape)) (white-below 0 (point_count shape) (omega arith)) (tt, tt) (omega arith, tt)

  pub plays-order : AreInOrder (plays_on shape)
  plays-order = order-append 65536 (plays_of shape colour.Black) (plays_of shape colour.White) black-order
      (below-append 65537 (plays_at shape colour.Black (range_with_len 0 (point_count shape))) (pass_of colour.Black) (below-weaker 65536 65537 (plays_at shape colour.Black (range_with_len 0 (point_count shape))) (omega arith) (black-below 0 (point_count shape) (omega arith))) (omega arith, tt))
      white-order
      (behind-append 65536 (plays_at shape colour.White (range_with_len 0 (point_count shape))) (pass_of colour.White) (white-behind 0 (point_count shape)) (omega arith, tt))

  -- a move on the board
  of_side : (side : Colour) (place : Option Point) → IfSome place (λ (p : Point). IsOnBoard shape p) → IsOneOf (record { colour = side; point = place }) (plays_of shape side)
  of_side side None on = one-right (record { colour = side; point = None }) (plays_at shape side (range_with_len 0 (point_count shape))) (pass_of side) (inl refl)
  of_side side (Some p) on =
      let k = number_of shape p in
      let lt : k < point_count shape = number_of-lt-count shape p on in
      let there : point_of (k % cols_of shape) (k / cols_of shape) ≡ p = same_point_from_number shape (point_of (k % cols_of shape) (k / cols_of shape)) p (point_with-on_board shape k lt) on (number_of-point_with shape k lt) in
      one-left (record { colour = side; point = Some p }) (plays_at shape side (range_with_len 0 (point_count shape))) (pass_of side)
      (range-one shape side 0 (point_count shape) k (record { colour = side; point = Some p }) (omega arith) (omega (arith, lt)) (ap (λ (q : Point). record { colour = side; point = Some q }) there))

  pub plays-one : (m : Move) → IfSome m.point (λ (p : Point). IsOnBoard shape p) → IsOneOf m (plays_on shape)
  plays-one m on = by m.colour (of_side m.colour m.point on)
    where
      by : (side : Colour) → IsOneOf (record { colour = side; point = m.point }) (plays_of shape side) → IsOneOf (record { colour = side; point = m.point }) (plays_on shape)
      by colour.Black is = one-left (record { colour = colour.Black; point = m.point }) (plays_of shape colour.Black) (plays_of shape colour.White) is
      by colour.White is = one-right (record { colour = colour.White; point = m.point }) (plays_of shape colour.Black) (plays_of shape colour.White) is
