-- The images of an image are the images of the signature, so that all of them have one canonical form.
use Rattle.std.proofs.Common.{◌≡◌, ◌↔◌, ℕ, List, Option, Some, None, refl, sym, ◌∙◌, ap, subst}
use Rattle.std.specs.Option.{option_map}
use Rattle.std.specs.Prelude.{IfSome}
use Rattle.kb_geometry.specs.declared.shape.Point.{Point}
use Rattle.kb_geometry.specs.declared.shape.Shape.{Shape}
use Rattle.kb_geometry.specs.Board.{IsOnBoard}
use Rattle.kb_geometry.specs.Symmetry.{inverse_number, moved}
use Rattle.kb_geometry.proofs.Symmetries.{moved-inverse}
use Rattle.dyer_signature.specs.Images.{IsCanonicalForm, IsSignatureImage}
use Rattle.dyer_signature.specs.Patterns.{Matches}
use Rattle.dyer_signature.specs.Signatures.{IsSignatureOn, TellsAt}
use Rattle.dyer_signature.proofs.ByteOrder.{most_from_not_less, same_least}
use Rattle.dyer_signature.proofs.JoinedSymmetries.{AreJoined, inverse-allowed, inverse-lt, joined}
use Rattle.dyer_signature.proofs.Pairs.{IsPair-only}
use Rattle.dyer_signature.proofs.Turnings.{any_image-on_board}

-- two symmetries that move each point of the board alike move a place's point alike
moved-alike : (shape : Shape) (first second third : ℕ) → ((p : Point) → IsOnBoard shape p → moved second shape (moved first shape p) ≡ moved third shape p) → (p : Option Point) → IfSome p (λ (r : Point). IsOnBoard shape r) → option_map (moved second shape) (option_map (moved first shape) p) ≡ option_map (moved third shape) p
moved-alike shape first second third same None inside = refl
moved-alike shape first second third same (Some p) inside = ap (λ r. Some r) (same p inside)

moved-back : (shape : Shape) (first second : ℕ) → ((p : Point) → IsOnBoard shape p → moved second shape (moved first shape p) ≡ p) → (p : Option Point) → IfSome p (λ (r : Point). IsOnBoard shape r) → option_map (moved second shape) (option_map (moved first shape) p) ≡ p
moved-back shape first second same None inside = refl
moved-back shape first second same (Some p) inside = ap (λ r. Some r) (same p inside)

module _ (shape : Shape) (signature : List ℕ) (on : IsSignatureOn shape signature) where
  -- an image of an image is an image
  pub image-again : (image other : List ℕ) → IsSignatureImage shape signature image → IsSignatureImage shape image other → IsSignatureImage shape signature other
  image-again image other first second =
      let one : AreJoined shape first.number second.number =
      joined shape first.number second.number first.is_symmetry second.is_symmetry first.is_allowed second.is_allowed in
      record {
        number = one.number;
        is_symmetry = one.is_symmetry;
        is_allowed = one.is_allowed;
        is_moved = record {
          twelve = second.is_moved.twelve;
          each = λ place lt.
              let (p, told, inside) = on.each place lt in
              let (q, told_q, moved_q) = first.is_moved.each place lt in
              let (r, told_r, moved_r) = second.is_moved.each place lt in
              let q_is : q ≡ p = IsPair-only q p _ _ told_q told in
              let r_is : r ≡ option_map (moved first.number shape) p =
              IsPair-only r (option_map (moved first.number shape) q) _ _ told_r moved_q
              ∙ ap (option_map (moved first.number shape)) q_is in
              let both : option_map (moved second.number shape) r ≡ option_map (moved one.number shape) p =
              ap (option_map (moved second.number shape)) r_is
              ∙ moved-alike shape first.number second.number one.number one.same p inside in
              (p, told, subst (λ (o : Option Point). TellsAt other place o) both moved_r);
        };
      }

  -- and the signature is an image of each of its images
  pub image-back : (image : List ℕ) → IsSignatureImage shape signature image → IsSignatureImage shape image signature
  image-back image first = record {
    number = inverse_number first.number;
    is_symmetry = inverse-lt shape first.number first.is_symmetry;
    is_allowed = inverse-allowed shape first.number first.is_symmetry first.is_allowed;
    is_moved = record {
      twelve = on.twelve;
      each = λ place lt.
          let (p, told, inside) = on.each place lt in
          let (q, told_q, moved_q) = first.is_moved.each place lt in
          let q_is : q ≡ p = IsPair-only q p _ _ told_q told in
          let back : option_map (moved (inverse_number first.number) shape) (option_map (moved first.number shape) p) ≡ p =
          moved-back shape first.number (inverse_number first.number)
          (λ r is. moved-inverse shape r is first.number first.is_symmetry first.is_allowed) p inside in (
            option_map (moved first.number shape) p,
            subst (λ (o : Option Point). TellsAt image place (option_map (moved first.number shape) o)) q_is moved_q,
            subst (λ (o : Option Point). TellsAt signature place o) (sym back) told,
          );
    };
  }

-- an image has the images of its signature
pub same_images : (shape : Shape) (signature image : List ℕ) → IsSignatureOn shape signature → IsSignatureImage shape signature image → (other : List ℕ) → IsSignatureImage shape image other ↔ IsSignatureImage shape signature other
same_images shape signature image on first other = (
  λ second. image-again shape signature on image other first second,
  λ second. image-again shape image (any_image-on_board shape signature image on first) signature other (image-back shape signature on image first) second,
)

-- a signature has one canonical form
pub canonical-only : (shape : Shape) (signature a b : List ℕ) → IsCanonicalForm shape signature a → IsCanonicalForm shape signature b → a ≡ b
canonical-only shape signature a b at_a at_b =
    same_least a b (most_from_not_less a b (at_a.is_least b at_b.is_image)) (most_from_not_less b a (at_b.is_least a at_a.is_image))

module _ (shape : Shape) (signature other : List ℕ) (on : IsSignatureOn shape signature) (on_too : IsSignatureOn shape other) (form form_too : List ℕ) (is : IsCanonicalForm shape signature form) (is_too : IsCanonicalForm shape other form_too) where
  -- the form of an image is that of the signature
  pub canonical-image : IsSignatureImage shape signature other → form ≡ form_too
  canonical-image first =
      let of_signature : IsCanonicalForm shape signature form_too = record {
        is_image = image-again shape signature on other form_too first is_too.is_image;
        is_least = λ image of_it.
            is_too.is_least image ((same_images shape signature other on first image).1 of_it);
      } in
      canonical-only shape signature form form_too is of_signature

  -- and where the forms are one, each signature is an image of the other
  pub image-canonical : form ≡ form_too → IsSignatureImage shape signature other
  image-canonical e =
      let there : IsSignatureImage shape other form = subst (IsSignatureImage shape other) (sym e) is_too.is_image in
      image-again shape signature on form other is.is_image (image-back shape other on_too form there)

-- an image matches where its signature does
pub matches-image : (shape : Shape) (signature image pattern : List ℕ) → IsSignatureOn shape signature → IsSignatureImage shape signature image → Matches shape image pattern ↔ Matches shape signature pattern
matches-image shape signature image pattern on first = (
  λ found. (found.0, (same_images shape signature image on first found.0).0 found.1, found.2),
  λ found. (found.0, (same_images shape signature image on first found.0).1 found.1, found.2),
)
