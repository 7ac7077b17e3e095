-- The images of a position: one under each symmetry that the board allows, and the same ones for each of them. The least
-- of them.
use Rattle.std.proofs.Common.{◌≡◌, ℕ, suc, ◌/◌, ◌%◌, ◌<◌, ◌⊎◌, inl, inr, length, map, refl, sym, ap, ◌∙◌, subst, arith}
use Rattle.std.proofs.lemmas.Bool.{cases_eq, cases_lt}
use Rattle.std.proofs.lemmas.List.{same_lists, get_or_default}
use Rattle.std.proofs.lemmas.List.FromFn.{get_or-map-range_with_len, length-map-range_with_len}
use Rattle.std.proofs.lemmas.Nat.{div-add-mod', div_below, mod_below, same_from_place}
use Rattle.std.specs.List.{range_with_len}
use Rattle.kb_geometry.specs.declared.shape.Point.{Point}
use Rattle.kb_geometry.specs.declared.shape.Shape.{Shape}
use Rattle.kb_geometry.specs.declared.stone.Cell.TheVariants as cell
use Rattle.kb_geometry.specs.Board.{IsOnBoard, cols_of, number_of, point_count, rows_of}
use Rattle.kb_geometry.specs.Capture.{Position, cell_at}
use Rattle.kb_geometry.specs.Symmetry.{IsAllowed, inverse_number, moved, point_of}
use Rattle.kb_geometry.proofs.Shapes.{number_of-lt-count}
use Rattle.kb_geometry.proofs.Symmetries.{inverse-moved, moved-inverse, moved-on_board, same_point}
use Rattle.dyer_signature.proofs.JoinedSymmetries.{inverse-allowed, inverse-lt, joined}
use Rattle.opening_tree.specs.Canonical.{Brings, IsBefore, IsCanonicalPosition, IsPositionImage}
use Rattle.opening_tree.proofs.PositionOrder.{IsBefore-trans, not_before_itself, one_first, same_from_order}

-- ---- the point with a number

module _ (shape : Shape) (k : ℕ) (lt : k < point_count shape) where
  pub point_with : Point
  point_with = point_of (k % cols_of shape) (k / cols_of shape)

  some_column : 0 < cols_of shape
  some_column = omega (arith, shape.in_range.0.0)

  pub point_with-on_board : IsOnBoard shape (point_of (k % cols_of shape) (k / cols_of shape))
  point_with-on_board = (
    mod_below k (cols_of shape) some_column,
    div_below k (cols_of shape) (rows_of shape) some_column (omega (arith, lt)),
  )

  pub number_of-point_with : number_of shape (point_of (k % cols_of shape) (k / cols_of shape)) ≡ k
  number_of-point_with = div-add-mod' k (cols_of shape)

module _ (shape : Shape) where
  abbrev pub nth_point : ℕ → Point
  nth_point k = point_of (k % cols_of shape) (k / cols_of shape)

  -- ---- the image under a symmetry

  abbrev pub image_under : ℕ → Position → Position
  image_under s position = map (λ k. cell_at position (number_of shape (moved (inverse_number s) shape (nth_point k)))) (range_with_len 0 (point_count shape))

  length-image_under : (s : ℕ) (position : Position) → length (image_under s position) ≡ point_count shape
  length-image_under s position = length-map-range_with_len (λ k. cell_at position (number_of shape (moved (inverse_number s) shape (nth_point k)))) 0 (point_count shape)

  -- a point of a board is known by its number
  pub same_point_from_number : (p q : Point) → IsOnBoard shape p → IsOnBoard shape q → number_of shape p ≡ number_of shape q → p ≡ q
  same_point_from_number p q on_p on_q e =
      let xs : p.x ≡ q.x = (same_from_place p.y p.x q.y q.x (cols_of shape) on_p.0 on_q.0 e).1 in
      let ys : p.y ≡ q.y = (same_from_place p.y p.x q.y q.x (cols_of shape) on_p.0 on_q.0 e).0 in
      same_point p q xs ys

  pub Brings-image : (s : ℕ) (position : Position) → s < 8 → IsAllowed s shape → Brings shape s position (image_under s position)
  Brings-image s position lt allowed = record {
    is_symmetry = lt;
    is_allowed = allowed;
    each_point = length-image_under s position;
    is_moved = λ p on.
        let q = moved s shape p in
        let q_on : IsOnBoard shape q = moved-on_board shape p on s lt allowed in
        let k = number_of shape q in
        let below : k < point_count shape = number_of-lt-count shape q q_on in
        let again : nth_point k ≡ q = same_point_from_number (nth_point k) q (point_with-on_board shape k below) q_on (number_of-point_with shape k below) in
        get_or-map-range_with_len (λ j. cell_at position (number_of shape (moved (inverse_number s) shape (nth_point j)))) 0 (point_count shape) k k cell.Empty below (omega arith)
        ∙ ap (λ (r : Point). cell_at position (number_of shape (moved (inverse_number s) shape r))) again
        ∙ ap (λ (r : Point). cell_at position (number_of shape r)) (moved-inverse shape p on s lt allowed);
  }

  -- what stands on a point of an image
  image_cell : (s : ℕ) (position image : Position) → Brings shape s position image → (k : ℕ) → k < point_count shape → cell_at image k ≡ cell_at position (number_of shape (moved (inverse_number s) shape (nth_point k)))
  image_cell s position image brings k lt =
      let q = nth_point k in
      let on = point_with-on_board shape k lt in
      let back = moved (inverse_number s) shape q in
      let back_on : IsOnBoard shape back = moved-on_board shape q on (inverse_number s) (inverse-lt shape s brings.is_symmetry) (inverse-allowed shape s brings.is_symmetry brings.is_allowed) in
      ap (cell_at image) (sym (ap (number_of shape) (inverse-moved shape q on s brings.is_symmetry brings.is_allowed) ∙ number_of-point_with shape k lt))
      ∙ brings.is_moved back back_on

  -- there is one image under a symmetry
  pub one_image : (s : ℕ) (position a b : Position) → Brings shape s position a → Brings shape s position b → a ≡ b
  one_image s position a b at_a at_b = same_lists a b (at_a.each_point ∙ sym at_b.each_point) (λ k d lt.
      let below : k < point_count shape = omega (arith, lt, at_a.each_point) in
      get_or_default a k d cell.Empty lt ∙ image_cell s position a at_a k below ∙ sym (image_cell s position b at_b k below) ∙ get_or_default b k cell.Empty d (omega (arith, below, at_b.each_point)))

  -- ---- images of images

  pub Brings-joined : (s t : ℕ) (position image other : Position) → Brings shape s position image → Brings shape t image other → IsPositionImage shape position other
  Brings-joined s t position image other first second =
      let both = joined shape s t first.is_symmetry second.is_symmetry first.is_allowed second.is_allowed in (
        both.number,
        record {
          is_symmetry = both.is_symmetry;
          is_allowed = both.is_allowed;
          each_point = second.each_point;
          is_moved = λ p on.
              let q = moved s shape p in
              let q_on : IsOnBoard shape q = moved-on_board shape p on s first.is_symmetry first.is_allowed in
              ap (λ (r : Point). cell_at other (number_of shape r)) (sym (both.same p on)) ∙ second.is_moved q q_on ∙ first.is_moved p on;
        },
      )

  pub Brings-back : (s : ℕ) (position image : Position) → length position ≡ point_count shape → Brings shape s position image → Brings shape (inverse_number s) image position
  Brings-back s position image long brings = record {
    is_symmetry = inverse-lt shape s brings.is_symmetry;
    is_allowed = inverse-allowed shape s brings.is_symmetry brings.is_allowed;
    each_point = long;
    is_moved = λ p on.
        let back = moved (inverse_number s) shape p in
        let back_on : IsOnBoard shape back = moved-on_board shape p on (inverse_number s) (inverse-lt shape s brings.is_symmetry) (inverse-allowed shape s brings.is_symmetry brings.is_allowed) in
        sym (brings.is_moved back back_on) ∙ ap (λ (r : Point). cell_at image (number_of shape r)) (inverse-moved shape p on s brings.is_symmetry brings.is_allowed);
  }

  module _ (position image : Position) (long : length position ≡ point_count shape) (first : IsPositionImage shape position image) where
    pub images-of_image : (other : Position) → IsPositionImage shape image other → IsPositionImage shape position other
    images-of_image other second = Brings-joined first.0 second.0 position image other first.1 second.1

    pub images-of_position : (other : Position) → IsPositionImage shape position other → IsPositionImage shape image other
    images-of_position other second = Brings-joined (inverse_number first.0) second.0 image position other (Brings-back first.0 position image long first.1) second.1

  -- ---- the least image

  pub one_canonical : (position a b : Position) → IsCanonicalPosition shape position a → IsCanonicalPosition shape position b → a ≡ b
  one_canonical position a b at_a at_b =
      same_from_order a b (at_a.is_image.1.each_point ∙ sym at_b.is_image.1.each_point) (at_b.is_least a at_a.is_image) (at_a.is_least b at_b.is_image)

  -- a position and its images have one canonical position
  pub canonical-image : (position image canonical other : Position) → length position ≡ point_count shape → IsPositionImage shape position image → IsCanonicalPosition shape position canonical → IsCanonicalPosition shape image other → canonical ≡ other
  canonical-image position image canonical other long first is is_too =
      let of_position : IsCanonicalPosition shape position other = record {
        is_image = images-of_image position image long first other is_too.is_image;
        is_least = λ more of_it. is_too.is_least more (images-of_position position image long first more of_it);
      } in
      one_canonical position canonical other is of_position

  pub image-canonical : (position image canonical other : Position) → length position ≡ point_count shape → length image ≡ point_count shape → IsCanonicalPosition shape position canonical → IsCanonicalPosition shape image other → canonical ≡ other → IsPositionImage shape position image
  image-canonical position image canonical other long long_too is is_too e =
      let there : IsPositionImage shape image canonical = subst (IsPositionImage shape image) (sym e) is_too.is_image in
      images-of_image position canonical long is.is_image image (images-of_position image canonical long_too there image (
        0,
        record {
          is_symmetry = omega arith;
          is_allowed = λ le. absurd (omega (arith, le));
          each_point = long_too;
          is_moved = λ p on. refl;
        },
      ))

  -- the least of the images under the symmetries with the first numbers
  pub record IsLeastOf (position : Position) (n : ℕ) : Type 0 where
    symmetry : ℕ
    image : Position
    brings : Brings shape symmetry position image
    least : (s : ℕ) (other : Position) → s < n → Brings shape s position other → ¬ IsBefore other image

  stays : (position : Position) → length position ≡ point_count shape → Brings shape 0 position position
  stays position long = record {
    is_symmetry = omega arith;
    is_allowed = λ le. absurd (omega (arith, le));
    each_point = long;
    is_moved = λ p on. refl;
  }

  pub allowed_or_not : (n : ℕ) → IsAllowed n shape ⊎ (¬ IsAllowed n shape)
  allowed_or_not n =
      elim (cases_lt n 4) [
        | inl low ↦ inl (λ le. absurd (omega (arith, low, le)))
        | inr le ↦ elim (cases_eq (cols_of shape) (rows_of shape)) [
          | inl e ↦ inl (λ _. e)
          | inr ne ↦ inr (λ allowed. ne (allowed le))
        ]
      ]

  module _ (position : Position) (long : length position ≡ point_count shape) where
    least_first : IsLeastOf position 1
    least_first = record {
      symmetry = 0;
      image = position;
      brings = stays position long;
      least = λ s other lt brings before.
          let zero_is : s ≡ 0 = omega (arith, lt) in
          let same : other ≡ position = one_image 0 position other position (subst (λ t. Brings shape t position other) zero_is brings) (stays position long) in
          not_before_itself position (subst (λ (x : Position). IsBefore x position) same before);
    }

    -- one symmetry more
    least_more : (n : ℕ) → n < 8 → IsLeastOf position n → IsLeastOf position (suc n)
    least_more n lt old = elim (allowed_or_not n) [ inl allowed ↦ by allowed | inr not_allowed ↦ kept (λ other brings. absurd (not_allowed brings.is_allowed)) ]
      where
        -- none under the further symmetry comes before the old one
        kept : ((other : Position) → Brings shape n position other → ¬ IsBefore other old.image) → IsLeastOf position (suc n)
        kept none = record {
          symmetry = old.symmetry;
          image = old.image;
          brings = old.brings;
          least = λ s other below brings. elim (cases_eq s n) [
            | inl e ↦ none other (subst (λ t. Brings shape t position other) e brings)
            | inr ne ↦ old.least s other (omega (arith, below, ne)) brings
          ];
        }

        by : IsAllowed n shape → IsLeastOf position (suc n)
        by allowed =
            let image = image_under n position in
            let brings_image : Brings shape n position (image_under n position) = Brings-image n position lt allowed in
            elim (one_first (image_under n position) old.image (brings_image.each_point ∙ sym old.brings.each_point)) [
              | inl before ↦ record {
                symmetry = n;
                image = image_under n position;
                brings = brings_image;
                least = λ s other below brings further. elim (cases_eq s n) [
                  | inl e ↦
                      let same : other ≡ image_under n position = one_image n position other (image_under n position) (subst (λ t. Brings shape t position other) e brings) brings_image in
                      not_before_itself (image_under n position) (subst (λ (x : Position). IsBefore x (image_under n position)) same further)
                  | inr ne ↦ old.least s other (omega (arith, below, ne)) brings (IsBefore-trans other (image_under n position) old.image further before)
                ];
              }
              | inr other_way ↦ kept (λ other brings further.
                  let same : other ≡ image_under n position = one_image n position other (image_under n position) brings brings_image in
                  let here : IsBefore (image_under n position) old.image = subst (λ (x : Position). IsBefore x old.image) same further in
                  elim other_way [
                    | inl equal ↦ not_before_itself old.image (subst (λ (x : Position). IsBefore x old.image) equal here)
                    | inr behind ↦ not_before_itself old.image (IsBefore-trans old.image (image_under n position) old.image behind here)
                  ])
            ]

    pub some_canonical : (canonical : Position) × IsCanonicalPosition shape position canonical
    some_canonical =
        let last = least_more 7 (omega arith) (least_more 6 (omega arith) (least_more 5 (omega arith) (least_more 4 (omega arith) (least_more 3 (omega arith) (least_more 2 (omega arith) (least_more 1 (omega arith) least_first)))))) in (
          last.image,
          record {
            is_image = (last.symmetry, last.brings);
            is_least = λ image of_it. last.least of_it.0 image of_it.1.is_symmetry of_it.1;
          },
        )
