-- Images of signatures under the symmetries of their board.
use Rattle.std.proofs.Common.{◌≡◌, ◌≢◌, ◌⊎◌, ℕ, ◌+◌, ◌<◌, ◌≤◌, List, length, Option, Some, None, sym, ◌∙◌, subst, inl, inr, arith}
use Rattle.std.proofs.lemmas.Bool.{cases_eq, cases_lt}
use Rattle.std.specs.Option.{option_map}
use Rattle.std.specs.Prelude.{IfSome}
use Rattle.kb_geometry.specs.declared.shape.Point.{Point}
use Rattle.kb_geometry.specs.declared.shape.Shape.{Shape}
use Rattle.kb_geometry.specs.Board.{IsOnBoard}
use Rattle.kb_geometry.specs.Symmetry.{IsAllowed, moved}
use Rattle.kb_geometry.proofs.Symmetries.{moved-on_board}
use Rattle.dyer_signature.specs.Images.{IsCanonicalForm, IsSignatureImage, IsImageUnder, IsLess}
use Rattle.dyer_signature.specs.Signatures.{IsPair, IsSignatureOn, TellsAt}
use Rattle.dyer_signature.proofs.ByteOrder.{IsAtMost, most-itself, most-trans, most_from_not_less, not_less}
use Rattle.dyer_signature.proofs.Pairs.{IsPair-only, same_bytes}

-- ---- one image

-- the image as far as it is made: its places below one are moved, and the others are those of the signature
pub record IsMovedBelow (shape : Shape) (number end : ℕ) (signature image : List ℕ) : Type 0 where
  pub twelve : length image ≡ 12
  pub below : (place : ℕ) →
      place < 6 →
      place < end →
      (point : Option Point) × TellsAt signature place point × TellsAt image place (option_map (moved number shape) point)
  pub kept : (place : ℕ) (told : Option Point) →
      place < 6 →
      end ≤ place →
      TellsAt signature place told →
      TellsAt image place told

-- what a place of a signature tells lies on the board
pub told_point : (shape : Shape) (signature : List ℕ) (place : ℕ) (found : Option Point) (p : Point) → IsSignatureOn shape signature → place < 6 → ((point : Option Point) → TellsAt signature place point → found ≡ point) → found ≡ Some p → TellsAt signature place (Some p) × IsOnBoard shape p
told_point shape signature place found p on lt only is =
    let (q, told, inside) = on.each place lt in
    let same : q ≡ Some p = sym (only q told) ∙ is in
    (subst (λ (o : Option Point). TellsAt signature place o) same told, subst (λ (o : Option Point). IfSome o (λ (r : Point). IsOnBoard shape r)) same inside)

pub told_none : (shape : Shape) (signature : List ℕ) (place : ℕ) (found : Option Point) → IsSignatureOn shape signature → place < 6 → ((point : Option Point) → TellsAt signature place point → found ≡ point) → found ≡ None → TellsAt signature place None
told_none shape signature place found on lt only is =
    let (q, told, inside) = on.each place lt in
    let same : q ≡ None = sym (only q told) ∙ is in
    subst (λ (o : Option Point). TellsAt signature place o) same told

module _ (shape : Shape) (number : ℕ) (signature : List ℕ) where
  pub moved-start : IsSignatureOn shape signature → IsMovedBelow shape number 0 signature signature
  moved-start on = record {
    twelve = on.twelve;
    below = λ place lt none. absurd (omega arith);
    kept = λ place told lt le is. is;
  }

  moved-step : (here : ℕ) (old new : List ℕ) (point : Option Point) → TellsAt signature here point → length new ≡ 12 → TellsAt new here (option_map (moved number shape) point) → ((other : ℕ) (told : Option Point) → other < 6 → other ≢ here → TellsAt old other told → TellsAt new other told) → IsMovedBelow shape number here signature old → IsMovedBelow shape number (here + 1) signature new
  moved-step here old new point told twelve is others so_far = record {
    twelve = twelve;
    below = λ place lt below. elim (cases_eq place here) [
      | inl e ↦
          let P : ℕ → Type 0 = λ k. (q : Option Point) × TellsAt signature k q × TellsAt new k (option_map (moved number shape) q) in
          subst P (sym e) (point, told, is)
      | inr ne ↦
          let (q, before, after) = so_far.below place lt (omega arith) in
          (q, before, others place _ lt ne after)
    ];
    kept = λ place q lt le before. others place q lt (λ e. omega arith) (so_far.kept place q lt (omega arith) before);
  }

  pub moved-point : (here : ℕ) (old new : List ℕ) (p q : Point) → TellsAt signature here (Some p) → q ≡ moved number shape p → length new ≡ 12 → TellsAt new here (Some q) → ((other : ℕ) (told : Option Point) → other < 6 → other ≢ here → TellsAt old other told → TellsAt new other told) → IsMovedBelow shape number here signature old → IsMovedBelow shape number (here + 1) signature new
  moved-point here old new p q told e twelve is others so_far =
      moved-step here old new (Some p) told twelve (subst (λ (r : Point). TellsAt new here (Some r)) e is) others so_far

  pub moved-none : (here : ℕ) (image : List ℕ) → here < 6 → TellsAt signature here None → IsMovedBelow shape number here signature image → IsMovedBelow shape number (here + 1) signature image
  moved-none here image lt told so_far =
      moved-step here image image None told so_far.twelve (so_far.kept here None lt (omega arith) told) (λ other q below ne is. is) so_far

  pub moved-all : (image : List ℕ) → IsMovedBelow shape number 6 signature image → IsImageUnder shape number signature image
  moved-all image so_far = record { twelve = so_far.twelve; each = λ place lt. so_far.below place lt lt }

  -- a symmetry makes one image
  pub image-only : (a b : List ℕ) → IsImageUnder shape number signature a → IsImageUnder shape number signature b → a ≡ b
  image-only a b at_a at_b = same_bytes a b at_a.twelve at_b.twelve (λ place lt.
      let (p, told_p, moved_p) = at_a.each place lt in
      let (q, told_q, moved_q) = at_b.each place lt in
      let same = IsPair-only q p _ _ told_q told_p in
      (option_map (moved number shape) p, moved_p, subst (λ (o : Option Point). TellsAt b place (option_map (moved number shape) o)) same moved_q))

  moved_inside : number < 8 → IsAllowed number shape → (p : Option Point) → IfSome p (λ (r : Point). IsOnBoard shape r) → IfSome (option_map (moved number shape) p) (λ (r : Point). IsOnBoard shape r)
  moved_inside lt allowed None inside = tt
  moved_inside lt allowed (Some p) inside = moved-on_board shape p inside number lt allowed

  -- which is a signature on the board
  pub image-on_board : (image : List ℕ) → number < 8 → IsAllowed number shape → IsSignatureOn shape signature → IsImageUnder shape number signature image → IsSignatureOn shape image
  image-on_board image below allowed on is_moved = record {
    twelve = is_moved.twelve;
    each = λ place lt.
        let (p, told, inside) = on.each place lt in
        let (q, told_q, moved_q) = is_moved.each place lt in
        let same = IsPair-only q p _ _ told_q told in (
          option_map (moved number shape) p,
          subst (λ (o : Option Point). TellsAt image place (option_map (moved number shape) o)) same moved_q,
          moved_inside below allowed p inside,
        );
  }

-- ---- the least image

itself : (shape : Shape) (p : Option Point) (a b : ℕ) → IsPair p a b → IsPair (option_map (moved 0 shape) p) a b
itself shape None a b is = is
itself shape (Some p) a b is = is

-- the least of the images under the first symmetries, the signature itself among them
pub record IsLeastBelow (shape : Shape) (end : ℕ) (signature least : List ℕ) : Type 0 where
  pub is_image : IsSignatureImage shape signature least
  pub is_least : (number : ℕ) (image : List ℕ) →
      number < end →
      IsAllowed number shape →
      IsImageUnder shape number signature image →
      IsAtMost least image

module _ (shape : Shape) (signature : List ℕ) where
  moved-itself : IsSignatureOn shape signature → IsImageUnder shape 0 signature signature
  moved-itself on = record {
    twelve = on.twelve;
    each = λ place lt. let (p, told, inside) = on.each place lt in (p, told, itself shape p _ _ told);
  }

  pub image-itself : IsSignatureOn shape signature → IsSignatureImage shape signature signature
  image-itself on = record {
    number = 0;
    is_symmetry = omega arith;
    is_allowed = λ four. absurd (omega arith);
    is_moved = moved-itself on;
  }

  -- the image under symmetry 0 is the signature
  pub least-start : IsSignatureOn shape signature → IsLeastBelow shape 1 signature signature
  least-start on = record {
    is_image = image-itself on;
    is_least = λ number image lt may is_moved.
        let first : number ≡ 0 = omega arith in
        let same = image-only shape 0 signature signature image (moved-itself on)
        (subst (λ k. IsImageUnder shape k signature image) first is_moved) in
        subst (IsAtMost signature) same (most-itself signature);
  }

  -- one image more
  pub least-more : (n : ℕ) (old image new : List ℕ) → n < 8 → IsAllowed n shape → IsImageUnder shape n signature image → ((new ≡ old) ⊎ (new ≡ image)) → ¬ IsLess old new → ¬ IsLess image new → IsLeastBelow shape n signature old → IsLeastBelow shape (n + 1) signature new
  least-more n old image new lt allowed is_moved one first second so_far = record {
    is_image = elim one [
      | inl e ↦ subst (IsSignatureImage shape signature) (sym e) so_far.is_image
      | inr e ↦ subst (IsSignatureImage shape signature) (sym e)
          (record { number = n; is_symmetry = lt; is_allowed = allowed; is_moved = is_moved })
    ];
    is_least = λ number other below may is_other. elim (cases_lt number n) [
      | inl before ↦
          most-trans new old other (most_from_not_less new old first) (so_far.is_least number other before may is_other)
      | inr le ↦
          let here : number ≡ n = omega arith in
          let same = image-only shape n signature image other is_moved
          (subst (λ k. IsImageUnder shape k signature other) here is_other) in
          subst (IsAtMost new) same (most_from_not_less new image second)
    ];
  }

  -- a symmetry that the board doesn't allow
  pub least-skip : (n : ℕ) (least : List ℕ) → ¬ IsAllowed n shape → IsLeastBelow shape n signature least → IsLeastBelow shape (n + 1) signature least
  least-skip n least forbidden so_far = record {
    is_image = so_far.is_image;
    is_least = λ number image below may is_moved. elim (cases_lt number n) [
      | inl before ↦ so_far.is_least number image before may is_moved
      | inr le ↦
          let here : number ≡ n = omega arith in
          absurd (forbidden (subst (λ k. IsAllowed k shape) here may))
    ];
  }

  pub least-all : (least : List ℕ) → IsLeastBelow shape 8 signature least → IsCanonicalForm shape signature least
  least-all least so_far = record {
    is_image = so_far.is_image;
    is_least = λ image of_it.
        not_less least image (so_far.is_least of_it.number image of_it.is_symmetry of_it.is_allowed of_it.is_moved);
  }

  -- an image is a signature on the board
  pub any_image-on_board : (image : List ℕ) → IsSignatureOn shape signature → IsSignatureImage shape signature image → IsSignatureOn shape image
  any_image-on_board image on of_it =
      image-on_board shape of_it.number signature image of_it.is_symmetry of_it.is_allowed on of_it.is_moved
