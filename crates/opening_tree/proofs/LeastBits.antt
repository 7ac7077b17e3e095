-- The least of the first images and those that are like it, with one image more.
use Rattle.std.proofs.Common.{◌≡◌, ◌≢◌, ℕ, ◌+◌, ◌*◌, ◌%◌, ◌^◌, ◌<◌, inl, inr, List, sym, ap, ◌∙◌, subst, arith, bit_or}
use Rattle.std.proofs.Math.Nat.{zero-div}
use Rattle.std.proofs.lemmas.Bool.{cases_eq}
use Rattle.std.proofs.lemmas.Nat.Bits.{bit_at_or, bit_at_set_other, bit_at_set_same}
use Rattle.std.specs.Int.{bit_at, w8}
use Rattle.kb_geometry.specs.Capture.{Position}
use Rattle.opening_tree.specs.declared.least.LeastImages.{LeastImages}
use Rattle.opening_tree.specs.Canonical.{IsBefore}
use Rattle.opening_tree.specs.Frames.{image_in}
use Rattle.opening_tree.specs.Least.{AreLeastOf}
use Rattle.opening_tree.proofs.LeastImages.{none_below-kept, none_below-moved}
use Rattle.opening_tree.proofs.PositionOrder.{not_before_itself}

-- one bit alone
abbrev pub one_bit : ℕ → ℕ
one_bit k = 1 * 2 ^ k % 2 ^ 8

no_bit : (i : ℕ) → bit_at 0 i ≡ 0
no_bit i = ap (λ m. m % 2) (zero-div (2 ^ i))

alone : (x i : ℕ) → bit_at x i ≡ bit_at (bit_or 0 x) i
alone x i = omega (arith, bit_at_or 0 x i, no_bit i)

own_bit : (k : ℕ) → k < 8 → bit_at (one_bit k) k ≡ 1
own_bit k lt = alone (one_bit k) k ∙ bit_at_set_same w8 0 k lt

other_bit : (k i : ℕ) → k < 8 → i ≢ k → bit_at (one_bit k) i ≡ 0
other_bit k i lt ne = alone (one_bit k) i ∙ bit_at_set_other w8 0 k lt i ne ∙ no_bit i

module _ (images : List Position) (k : ℕ) (below : k < 8) (least : LeastImages) (are : AreLeastOf k images least) where
  -- it is like the least
  pub least-alike : image_in images k ≡ image_in images least.first → AreLeastOf (k + 1) images (record { first = least.first; all = bit_or least.all (one_bit k) })
  least-alike same =
      let none : ¬ IsBefore (image_in images k) (image_in images least.first) = λ back. not_before_itself (image_in images least.first) (subst (λ (p : Position). IsBefore p (image_in images least.first)) same back) in
      record {
        within = omega (arith, are.within);
        none_before = none_below-kept images least.first k are.none_before none;
        alike = λ n lt. elim (cases_eq n k) [
          | inl e ↦ (
            λ one. ap (image_in images) e ∙ same,
            λ alike. ap (bit_at (bit_or least.all (one_bit k))) e ∙ bit_at_set_same w8 least.all k below,
          )
          | inr ne ↦
              let old = are.alike n (omega (arith, lt, ne)) in
              let bit = bit_at_set_other w8 least.all k below n ne in
              (λ one. old.0 (sym bit ∙ one), λ alike. bit ∙ old.1 alike)
        ];
        rest = λ n le. bit_at_set_other w8 least.all k below n (λ e. omega (arith, e, le)) ∙ are.rest n (omega (arith, le));
      }

  -- it comes before
  pub least-moved : IsBefore (image_in images k) (image_in images least.first) → AreLeastOf (k + 1) images (record { first = k; all = one_bit k })
  least-moved before = record {
    within = omega arith;
    none_before = none_below-moved images least.first k are.none_before before;
    alike = λ n lt. elim (cases_eq n k) [
      | inl e ↦ (λ one. ap (image_in images) e, λ same. ap (bit_at (one_bit k)) e ∙ own_bit k below)
      | inr ne ↦ (
        λ one. absurd (omega (arith, one, other_bit k n below ne)),
        λ same. absurd (are.none_before n (omega (arith, lt, ne)) (subst (λ (p : Position). IsBefore p (image_in images least.first)) (sym same) before)),
      )
    ];
    rest = λ n le. other_bit k n below (λ e. omega (arith, e, le));
  }

-- the first image alone
pub least-first : (images : List Position) → AreLeastOf 1 images (record { first = 0; all = 1 })
least-first images = record {
  within = omega arith;
  none_before = λ n lt before. not_before_itself (image_in images 0) (subst (λ j. IsBefore (image_in images j) (image_in images 0)) (omega (arith, lt)) before);
  alike = λ n lt.
      let e : n ≡ 0 = omega (arith, lt) in
      (λ one. ap (image_in images) e, λ same. ap (bit_at 1) e ∙ own_bit 0 (omega arith));
  rest = λ n le. other_bit 0 n (omega arith) (λ e. omega (arith, e, le));
}
