-- A point in the frame of the canonical position: the least of those to which the symmetries that bring there move it.
use Rattle.std.proofs.Common.{◌≡◌, ◌⊎◌, ℕ, ◌+◌, ◌<◌, ◌≤◌, inl, inr, Option, Some, None, unwrap_or, sym, ap, ◌∙◌, subst, arith}
use Rattle.std.specs.Prelude.{IfNone, IfSome}
use Rattle.std.proofs.lemmas.Bool.{cases_eq}
use Rattle.kb_geometry.specs.declared.shape.Point.{Point}
use Rattle.kb_geometry.specs.declared.shape.Shape.{Shape}
use Rattle.kb_geometry.specs.Board.{IsOnBoard, number_of}
use Rattle.kb_geometry.specs.Capture.{Position}
use Rattle.kb_geometry.specs.Symmetry.{moved}
use Rattle.kb_geometry.proofs.Symmetries.{moved-on_board}
use Rattle.opening_tree.specs.Canonical.{Brings}
use Rattle.opening_tree.specs.Frames.{symmetries_of}
use Rattle.opening_tree.specs.Least.{AreBringing, IsLeastMoved, IsLeastTo}
use Rattle.opening_tree.specs.NextMoves.{IsPointInFrame}
use Rattle.opening_tree.proofs.ImageChanges.{allowed-symmetry}

module _ (shape : Shape) (position canonical : Position) (point : Point) where
  abbrev to : ℕ → Option Point → Type 0
  to n found = IsLeastTo shape position canonical point n found

  pub least_to-start : to 0 None
  least_to-start n lt = absurd (omega (arith, lt))

  -- one symmetry that doesn't bring there
  pub least_to-other : (n : ℕ) (found : Option Point) → to n found → ¬ Brings shape n position canonical → to (n + 1) found
  least_to-other n None so_far not = λ other lt. elim (cases_eq other n) [
    | inl e ↦ λ brings. not (subst (λ k. Brings shape k position canonical) e brings)
    | inr off ↦ so_far other (omega (arith, lt, off))
  ]
  least_to-other n (Some found) so_far not = record {
    number = so_far.number;
    brings = so_far.brings;
    is_moved = so_far.is_moved;
    none_less = λ other lt brings. elim (cases_eq other n) [
      | inl e ↦ absurd (not (subst (λ k. Brings shape k position canonical) e brings))
      | inr off ↦ so_far.none_less other (omega (arith, lt, off)) brings
    ];
  }

  -- one that does
  pub least_to-more : (n : ℕ) (found : Option Point) (here lesser : Point) → to n found → Brings shape n position canonical → here ≡ moved n shape point
      → IfSome found (λ (p : Point). (lesser ≡ p) ⊎ (lesser ≡ here)) → IfSome found (λ (p : Point). number_of shape lesser ≤ number_of shape p) → number_of shape lesser ≤ number_of shape here → IfNone found (lesser ≡ here) → to (n + 1) (Some lesser)
  least_to-more n None here lesser so_far brings is either first second alone = record {
    number = n;
    brings = brings;
    is_moved = alone ∙ is;
    none_less = λ other lt also. elim (cases_eq other n) [
      | inl e ↦ omega (arith, second, ap (number_of shape) is, ap (λ k. number_of shape (moved k shape point)) e)
      | inr off ↦ absurd (so_far other (omega (arith, lt, off)) also)
    ];
  }
  least_to-more n (Some found) here lesser so_far brings is either first second alone = by either
    where
      none : (other : ℕ) → other < n + 1 → Brings shape other position canonical → number_of shape lesser ≤ number_of shape (moved other shape point)
      none other below also = elim (cases_eq other n) [
        | inl e ↦ omega (arith, second, ap (number_of shape) is, ap (λ k. number_of shape (moved k shape point)) e)
        | inr off ↦ omega (arith, first, so_far.none_less other (omega (arith, below, off)) also)
      ]

      by : (lesser ≡ found) ⊎ (lesser ≡ here) → IsLeastMoved shape position canonical point (n + 1) lesser
      by (inl e) = record { number = so_far.number; brings = so_far.brings; is_moved = e ∙ so_far.is_moved; none_less = none }
      by (inr e) = record { number = n; brings = brings; is_moved = e ∙ is; none_less = none }

  pub least_to-on_board : (n : ℕ) (found : Option Point) → IsOnBoard shape point → to n found → IfSome found (λ (p : Point). IsOnBoard shape p)
  least_to-on_board n None on so_far = tt
  least_to-on_board n (Some found) on so_far =
      subst (IsOnBoard shape) (sym so_far.is_moved) (moved-on_board shape point on so_far.number so_far.brings.is_symmetry so_far.brings.is_allowed)

  -- of all of them
  pub least_to-end : (all n : ℕ) (found : Option Point) → n ≡ symmetries_of shape → AreBringing shape position canonical all → to n found → IsPointInFrame shape position canonical point (unwrap_or found point)
  least_to-end all n None end are so_far =
      absurd (so_far are.number (omega (arith, end, allowed-symmetry shape are.number are.brings.is_symmetry are.brings.is_allowed)) are.brings)
  least_to-end all n (Some found) end are so_far = record {
    number = so_far.number;
    brings = so_far.brings;
    is_moved = so_far.is_moved;
    is_least = λ other brings. so_far.none_less other (omega (arith, end, allowed-symmetry shape other brings.is_symmetry brings.is_allowed)) brings;
  }
