-- A signature has an image under each symmetry that its board allows, and a canonical form; and it can be told whether it
-- matches a pattern.
use Rattle.std.proofs.Common.{◌≡◌, ◌≢◌, ◌⊎◌, ◌∙◌, ◌+◌, ◌<◌, ◌≤◌, ℕ, zero, suc, Bool, true, false, List, [], ◌∷◌, Option, Some, None, refl, sym, ap, subst, inl, inr, arith}
use Rattle.std.proofs.lemmas.Bool.{cases_eq, cases_lt, false≢true}
use Rattle.std.specs.Cmp.Lexicographic.{slice_cmp}
use Rattle.std.specs.Option.{option_map}
use Rattle.std.specs.Ordering.{is_gt, nat_cmp}
use Rattle.std.specs.Prelude.{IfSome, slice_index}
use Rattle.kb_geometry.specs.declared.shape.Point.{Point}
use Rattle.kb_geometry.specs.declared.shape.Shape.{Shape}
use Rattle.kb_geometry.specs.Board.{IsOnBoard, cols_of, rows_of}
use Rattle.kb_geometry.specs.Symmetry.{IsAllowed, moved}
use Rattle.kb_geometry.proofs.Symmetries.{moved-on_board}
use Rattle.dyer_signature.specs.Images.{IsCanonicalForm, IsImageUnder, IsLess}
use Rattle.dyer_signature.specs.Patterns.{Matches, star}
use Rattle.dyer_signature.specs.Signatures.{IsPair, IsSignatureOn, TellsAt}
use Rattle.dyer_signature.proofs.ByteOrder.{most-itself, not_less}
use Rattle.dyer_signature.proofs.OneSignature.{some_pair}
use Rattle.dyer_signature.proofs.Pairs.{each_place}
use Rattle.dyer_signature.proofs.PatternImages.{AreUnlike, matches-by, unlike-all, unlike-more, unlike-skip, unlike-start}
use Rattle.dyer_signature.proofs.Turnings.{IsLeastBelow, least-all, least-more, least-skip, least-start}

module _ (shape : Shape) (signature : List ℕ) (on : IsSignatureOn shape signature) where
  -- ---- each image is there

  module _ (number : ℕ) (lt : number < 8) (allowed : IsAllowed number shape) where
    moved_letters : (p : Option Point) → IfSome p (λ (q : Point). IsOnBoard shape q) → IfSome (option_map (moved number shape) p) (λ (q : Point). (q.x < 52) × (q.y < 52))
    moved_letters None inside = tt
    moved_letters (Some p) inside =
        let there = moved-on_board shape p inside number lt allowed in
        (omega (arith, there.0, shape.in_range), omega (arith, there.1, shape.in_range))

    -- the bytes at a place of the image
    record Moved (place : ℕ) : Type 0 where
      point : Option Point
      told : TellsAt signature place point
      first : ℕ
      second : ℕ
      pair : IsPair (option_map (moved number shape) point) first second

    moved_at : (place : ℕ) → place < 6 → Moved place
    moved_at place below =
        let (point, told, inside) = on.each place below in
        let (a, b, pair) = some_pair (option_map (moved number shape) point) (moved_letters point inside) in
        record { point = point; told = told; first = a; second = b; pair = pair }

    pub some_image : (image : List ℕ) × IsImageUnder shape number signature image
    some_image =
        let a = moved_at 0 (omega arith) in
        let b = moved_at 1 (omega arith) in
        let c = moved_at 2 (omega arith) in
        let d = moved_at 3 (omega arith) in
        let e = moved_at 4 (omega arith) in
        let f = moved_at 5 (omega arith) in
        let image : List ℕ = a.first ∷ a.second ∷ b.first ∷ b.second ∷ c.first ∷ c.second
        ∷ d.first ∷ d.second ∷ e.first ∷ e.second ∷ f.first ∷ f.second ∷ [] in (
          image,
          record {
            twelve = refl;
            each = each_place (λ place. (point : Option Point) × TellsAt signature place point × TellsAt image place (option_map (moved number shape) point))
                (a.point, a.told, a.pair)
                (b.point, b.told, b.pair)
                (c.point, c.told, c.pair)
                (d.point, d.told, d.pair)
                (e.point, e.told, e.pair)
                (f.point, f.told, f.pair);
          },
        )

  allowed_or_not : (number : ℕ) → IsAllowed number shape ⊎ ¬ IsAllowed number shape
  allowed_or_not number = elim (cases_lt number 4) [
    | inl lt ↦ inl (λ le. absurd (omega (arith, lt, le)))
    | inr le ↦ elim (cases_eq (cols_of shape) (rows_of shape)) [ inl e ↦ inl (λ _. e) | inr ne ↦ inr (λ allowed. ne (allowed le)) ]
  ]

  -- ---- the least of them

  told_greater : (b : Bool) → (b ≡ true) ⊎ (b ≡ false)
  told_greater true = inl refl
  told_greater false = inr refl

  -- the lesser of two
  lesser : (old image : List ℕ) → (new : List ℕ) × ((new ≡ old) ⊎ (new ≡ image)) × (¬ IsLess old new) × (¬ IsLess image new)
  lesser old image = elim (told_greater (is_gt (slice_cmp nat_cmp old image))) [
    | inl greater ↦ (image, inr refl, (λ less. false≢true (sym (ap is_gt less) ∙ greater)), not_less image image (most-itself image))
    | inr most ↦ (old, inl refl, not_less old old (most-itself old), not_less old image most)
  ]

  least_to : (n : ℕ) → n < 8 → (least : List ℕ) × IsLeastBelow shape (n + 1) signature least
  least_to zero lt = (signature, least-start shape signature on)
  least_to (suc n) lt =
      let (old, so_far) = least_to n (omega (arith, lt)) in
      let here : n + 1 ≡ suc n = omega arith in
      let before = subst (λ k. IsLeastBelow shape k signature old) here so_far in
      elim (allowed_or_not (suc n)) [
        | inl allowed ↦
            let (image, is) = some_image (suc n) lt allowed in
            let (new, one, first, second) = lesser old image in
            (new, least-more shape signature (suc n) old image new lt allowed is one first second before)
        | inr forbidden ↦ (old, least-skip shape signature (suc n) old forbidden before)
      ]

  pub some_canonical_form : (form : List ℕ) × IsCanonicalForm shape signature form
  some_canonical_form = let (form, least) = least_to 7 (omega arith) in (form, least-all shape signature form least)

-- ---- whether a signature matches a pattern

-- the image has the pattern's bytes among the first ones
abbrev AgreesTo : ℕ → List ℕ → List ℕ → Type 0
AgreesTo end image pattern = (k : ℕ) → k < end → slice_index pattern k ≢ star → slice_index image k ≡ slice_index pattern k

agrees_or_not : (end : ℕ) (image pattern : List ℕ) → AgreesTo end image pattern ⊎ ¬ AgreesTo end image pattern
agrees_or_not zero image pattern = inl (λ k lt. absurd (omega (arith, lt)))
agrees_or_not (suc n) image pattern = elim (agrees_or_not n image pattern) [
  | inr differs ↦ inr (λ agrees. differs (λ k lt. agrees k (omega (arith, lt))))
  | inl before ↦ elim (cases_eq (slice_index pattern n) star) [
    | inl any ↦ inl (λ k lt ne. elim (cases_eq k n) [
      | inl e ↦ absurd (ne (ap (slice_index pattern) e ∙ any))
      | inr other ↦ before k (omega (arith, lt, other)) ne
    ])
    | inr ne ↦ elim (cases_eq (slice_index image n) (slice_index pattern n)) [
      | inl same ↦ inl (λ k lt wanted. elim (cases_eq k n) [
        | inl e ↦ subst (λ (i : ℕ). slice_index image i ≡ slice_index pattern i) (sym e) same
        | inr other ↦ before k (omega (arith, lt, other)) wanted
      ])
      | inr differs ↦ inr (λ agrees. differs (agrees n (omega arith) ne))
    ]
  ]
]

module _ (shape : Shape) (signature pattern : List ℕ) (on : IsSignatureOn shape signature) where
  matches_below : (n : ℕ) → n ≤ 8 → Matches shape signature pattern ⊎ AreUnlike shape n signature pattern
  matches_below zero le = inr (unlike-start shape signature pattern)
  matches_below (suc n) le =
      let here : n + 1 ≡ suc n = omega arith in
      let lt : n < 8 = omega (arith, le) in
      elim (matches_below n (omega (arith, le))) [
        | inl found ↦ inl found
        | inr before ↦ elim (allowed_or_not shape signature on n) [
          | inr forbidden ↦ inr (subst (λ k. AreUnlike shape k signature pattern) here (unlike-skip shape signature pattern n forbidden before))
          | inl allowed ↦
              let (image, is) = some_image shape signature on n lt allowed in
              elim (agrees_or_not 12 image pattern) [
                | inl agrees ↦ inl (matches-by shape signature pattern n image lt allowed is agrees)
                | inr differs ↦ inr (subst (λ k. AreUnlike shape k signature pattern) here (unlike-more shape signature pattern n image is differs before))
              ]
        ]
      ]

  pub matches_or_not : Matches shape signature pattern ⊎ ¬ Matches shape signature pattern
  matches_or_not = elim (matches_below 8 (omega arith)) [ inl found ↦ inl found | inr none ↦ inr (unlike-all shape signature pattern none) ]
