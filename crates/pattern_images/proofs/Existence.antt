-- Each query has its placements on each board: for each point and label it can be told whether a placement is listed
-- there, and points and labels are gone through in order.
use Rattle.std.proofs.Common.{◌≡◌, ◌≤◌, ◌<◌, ◌+◌, ◌*◌, ◌/◌, ◌%◌, ◌⊎◌, inl, inr, ℕ, zero, suc, List, [], ◌∷◌, ◌++◌, get_or, refl, sym, ap, ◌∙◌, subst, arith}
use Rattle.std.specs.Prelude.{All, AllPairs, Any}
use Rattle.std.proofs.Math.Nat.{mod-lt, mod-add-div', mul-le-mul_right}
use Rattle.std.proofs.lemmas.Bool.{cases_eq, cases_lt}
use Rattle.std.proofs.lemmas.List.Elements.{All-nil, All-push, All-weaker}
use Rattle.std.proofs.lemmas.List.Quantifiers.{Any-push, all_pairs_push}
use Rattle.std.proofs.lemmas.Nat.{div-mul-add, mod-mul-add, mul-add-lt}
use Rattle.kb_geometry.proofs.Lists.{Any-kept, Any-weaker}
use Rattle.kb_geometry.specs.declared.shape.Shape.{Shape}
use Rattle.kb_geometry.specs.Board.{cols_of, rows_of}
use Rattle.pattern_images.specs.declared.query.Query.{Query}
use Rattle.pattern_images.specs.Placements.{ArePlacements, Placement, IsBefore, IsResult, IsSame}
use Rattle.pattern_images.proofs.PlacedOn.{IsPlacedOn-result}
use Rattle.pattern_images.proofs.ToldResults.{IsFirst, first-least, first-of, placement_by, told_first}

-- ---- points and labels by one number

-- in rows of c places, the place with the greater number is in a later row, or in this row behind the other
later_place : (c y x y' x' : ℕ) → x < c → x' < c → y * c + x < y' * c + x' → (y < y') ⊎ ((y ≡ y') × (x < x'))
later_place c y x y' x' column column' less = elim (cases_lt y y') [
  | inl above ↦ inl above
  | inr le ↦ elim (cases_eq y y') [
    | inl same ↦ inr (same, let rows : y * c ≡ y' * c = ap (λ n. n * c) same in omega arith)
    | inr other ↦
        let more : (y' + 1) * c ≤ y * c = mul-le-mul_right c (let below : y' + 1 ≤ y = omega arith in below) in
        absurd (omega arith)
  ]
]

-- and places with one number are one
same_place : (c y x y' x' : ℕ) → x < c → x' < c → y * c + x ≡ y' * c + x' → (y ≡ y') × (x ≡ x')
same_place c y x y' x' column column' same = (
  sym (div-mul-add y c x column) ∙ ap (λ n. n / c) same ∙ div-mul-add y' c x' column',
  sym (mod-mul-add y c x column) ∙ ap (λ n. n % c) same ∙ mod-mul-add y' c x' column',
)

module _ (query : Query) (shape : Shape) where
  abbrev label_in : ℕ → ℕ
  label_in n = n % 16

  abbrev x_in : ℕ → ℕ
  x_in n = n / 16 % cols_of shape

  abbrev y_in : ℕ → ℕ
  y_in n = n / 16 / cols_of shape

  abbrev by_number : ℕ → Placement
  by_number n = placement_by query shape (label_in n) (x_in n) (y_in n)

  -- a placement is listed there
  abbrev IsListed : ℕ → Type 0
  IsListed n = IsFirst query shape (label_in n) (x_in n) (y_in n)

  some_columns : 0 < cols_of shape
  some_columns = omega (arith, shape.in_range.0.0)

  number-before : (j k : ℕ) → j < k → IsBefore (by_number j) (by_number k)
  number-before j k less =
      let c : ℕ = cols_of shape in
      let j_is : j % 16 + j / 16 * 16 ≡ j = mod-add-div' j 16 in
      let k_is : k % 16 + k / 16 * 16 ≡ k = mod-add-div' k 16 in
      let j_lt : j % 16 < 16 = mod-lt j (omega arith) in
      let k_lt : k % 16 < 16 = mod-lt k (omega arith) in
      let j_at : j / 16 % c + j / 16 / c * c ≡ j / 16 = mod-add-div' (j / 16) c in
      let k_at : k / 16 % c + k / 16 / c * c ≡ k / 16 = mod-add-div' (k / 16) c in
      let j_in : j / 16 % c < c = mod-lt (j / 16) some_columns in
      let k_in : k / 16 % c < c = mod-lt (k / 16) some_columns in
      elim (cases_lt (j / 16) (k / 16)) [
        | inl point ↦
            let places : j / 16 / c * c + j / 16 % c < k / 16 / c * c + k / 16 % c = omega arith in
            elim (later_place c (j / 16 / c) (j / 16 % c) (k / 16 / c) (k / 16 % c) j_in k_in places) [
              | inl above ↦ inl above
              | inr beside ↦ inr (beside.0, inl beside.1)
            ]
        | inr le ↦
            let same : j / 16 ≡ k / 16 = omega arith in
            inr (
              ap (λ n. n / c) same,
              inr (ap (λ n. n % c) same, omega arith),
            )
      ]

  -- the number of a point and a label
  abbrev number : ℕ → ℕ → ℕ → ℕ
  number label x y = (y * cols_of shape + x) * 16 + label

  by_number-is : (label x y : ℕ) → label < 16 → x < cols_of shape → by_number (number label x y) ≡ placement_by query shape label x y
  by_number-is label x y few column =
      let point : number label x y / 16 ≡ y * cols_of shape + x = div-mul-add (y * cols_of shape + x) 16 label few in
      ap (λ n. placement_by query shape n (x_in (number label x y)) (y_in (number label x y)))
      (mod-mul-add (y * cols_of shape + x) 16 label few)
      ∙ ap (λ n. placement_by query shape label (n % cols_of shape) (n / cols_of shape)) point
      ∙ ap (λ n. placement_by query shape label n ((y * cols_of shape + x) / cols_of shape)) (mod-mul-add y (cols_of shape) x column)
      ∙ ap (λ n. placement_by query shape label x n) (div-mul-add y (cols_of shape) x column)

  -- ---- the list of the first so many numbers

  pub record IsListedBelow (n : ℕ) (list : List Placement) : Type 0 where
    pub sound : All (λ p. (k : ℕ) × (k < n) × IsListed k × (by_number k ≡ p)) list
    pub complete : (k : ℕ) → k < n → IsListed k → Any (λ p. by_number k ≡ p) list
    pub ordered : AllPairs IsBefore list

  listed-none : IsListedBelow 0 []
  listed-none = record {
    sound = All-nil (λ p. (k : ℕ) × (k < 0) × IsListed k × (by_number k ≡ p));
    complete = λ k lt. absurd (omega arith);
    ordered = λ i j d less below. absurd (omega arith);
  }

  module _ (n : ℕ) (list : List Placement) (listed : IsListedBelow n list) where
    still : All (λ p. (k : ℕ) × (k < suc n) × IsListed k × (by_number k ≡ p)) list
    still = All-weaker (λ p. (k : ℕ) × (k < n) × IsListed k × (by_number k ≡ p))
        (λ p. (k : ℕ) × (k < suc n) × IsListed k × (by_number k ≡ p))
        (λ p h. (h.0, omega (arith, h.1), h.2, h.3)) list listed.sound

    listed-skip : (IsListed n → ⊥) → IsListedBelow (suc n) list
    listed-skip none = record {
      sound = still;
      complete = λ k lt is. elim (cases_eq k n) [
        | inl same ↦ absurd (none (subst IsListed same is))
        | inr other ↦ listed.complete k (omega arith) is
      ];
      ordered = listed.ordered;
    }

    listed-more : IsListed n → IsListedBelow (suc n) (list ++ by_number n ∷ [])
    listed-more is = record {
      sound = All-push (λ p. (k : ℕ) × (k < suc n) × IsListed k × (by_number k ≡ p)) list (by_number n) still
          (n, omega arith, is, refl);
      complete = λ k lt is_k. elim (cases_eq k n) [
        | inl same ↦ Any-push (λ p. by_number k ≡ p) list (by_number n) (ap by_number same)
        | inr other ↦ Any-kept (λ p. by_number k ≡ p) list (by_number n) (listed.complete k (omega arith) is_k)
      ];
      ordered = all_pairs_push IsBefore list (by_number n) listed.ordered (λ k d below.
          let h = listed.sound k d below in
          subst (λ (p : Placement). IsBefore p (by_number n)) h.3 (number-before h.0 n h.1));
    }

  listing : (n : ℕ) → (list : List Placement) × IsListedBelow n list
  listing zero = ([], listed-none)
  listing (suc n) =
      let before = listing n in
      elim (told_first query shape (label_in n) (x_in n) (y_in n)) [
        | inl is ↦ (before.0 ++ by_number n ∷ [], listed-more n before.0 before.1 is)
        | inr none ↦ (before.0, listed-skip n before.0 before.1 none)
      ]

  -- ---- all points and labels

  abbrev all : ℕ
  all = cols_of shape * rows_of shape * 16

  first-in : (label x y : ℕ) → IsFirst query shape label x y →
      (number label x y < all) × IsListed (number label x y) × (by_number (number label x y) ≡ placement_by query shape label x y)
  first-in label x y first =
      let few : label < 16 = first.0.label.in_range in
      let on = IsPlacedOn-result query shape (placement_by query shape label x y) first.0 in
      let column : x < cols_of shape = omega (arith, on.columns, on.some_column) in
      let row : y < rows_of shape = omega (arith, on.rows, on.some_row) in
      let point : y * cols_of shape + x < cols_of shape * rows_of shape =
      mul-add-lt y (cols_of shape) x (rows_of shape) row column in
      let is : by_number (number label x y) ≡ placement_by query shape label x y = by_number-is label x y few column in (
        omega arith,
        subst (λ (p : Placement). IsFirst query shape p.label p.x p.y) (sym is) first,
        is,
      )

  module _ (list : List Placement) (listed : IsListedBelow all list) where
    listed-complete : (result : Placement) → IsResult query shape result → Any (IsSame result) list
    listed-complete result is =
        let (k, first, same) = first-of query shape result is in
        let (lt, here, at) = first-in k result.x result.y first in
        Any-weaker (λ p. by_number (number k result.x result.y) ≡ p) (IsSame result)
        (λ p e. subst (IsSame result) (sym at ∙ e) same) list
        (listed.complete (number k result.x result.y) lt here)

    listed-sound : All (IsResult query shape) list
    listed-sound = All-weaker (λ p. (k : ℕ) × (k < all) × IsListed k × (by_number k ≡ p)) (IsResult query shape)
        (λ p h. subst (IsResult query shape) h.3 h.2.0) list listed.sound

    listed-least : All (λ p. (result : Placement) → IsResult query shape result → IsSame p result → p.label ≤ result.label) list
    listed-least = All-weaker (λ p. (k : ℕ) × (k < all) × IsListed k × (by_number k ≡ p))
        (λ p. (result : Placement) → IsResult query shape result → IsSame p result → p.label ≤ result.label)
        (λ p h. subst (λ (q : Placement). (result : Placement) → IsResult query shape result → IsSame q result → q.label ≤ result.label)
        h.3 (first-least query shape (label_in h.0) (x_in h.0) (y_in h.0) h.2))
        list listed.sound

    before-other : (a b : Placement) → IsBefore a b → IsSame a b → b.label ≤ a.label → ⊥
    before-other a b (inl above) same least = omega (arith, same.row)
    before-other a b (inr (row, inl left)) same least = omega (arith, same.column)
    before-other a b (inr (row, inr (column, less))) same least = omega arith

    listed-distinct : AllPairs (λ a b. IsSame a b → ⊥) list
    listed-distinct i j d less below same =
        let a : Placement = get_or list i d in
        let b : Placement = get_or list j d in
        let back : IsSame b a = record { column = sym same.column; row = sym same.row; grid = sym same.grid } in
        before-other a b (listed.ordered i j d less below) same
        (listed-least j d below a (listed-sound i d (omega arith)) back)

    listed-whole : ArePlacements query shape list
    listed-whole = record {
      complete = listed-complete;
      sound = listed-sound;
      least = listed-least;
      distinct = listed-distinct;
      ordered = listed.ordered;
    }

pub some_list : (query : Query) (shape : Shape) → (placements : List Placement) × ArePlacements query shape placements
some_list query shape =
    let found = listing query shape (all query shape) in
    (found.0, listed-whole query shape found.0 found.1)
