-- The canonical form of a signature has no line feed: it is letters and `?`.
use Rattle.std.proofs.Common.{◌≡◌, ◌∙◌, inl, inr, ℕ, ◌+◌, ◌*◌, ◌/◌, ◌%◌, ◌<◌, true, List, Option, Some, None, length, slice_index, ap, arith}
use Rattle.std.specs.Prelude.{◌≢◌, All}
use Rattle.std.proofs.lemmas.Bool.{cases_eq}
use Rattle.std.proofs.lemmas.List.{get_or_default}
use Rattle.kb_geometry.specs.declared.shape.Point.{Point}
use Rattle.game_tree.specs.Tree.{Tree}
use Rattle.game_tree.specs.Value.{IsCoordinate}
use Rattle.dyer_signature.specs.Signatures.{IsPair}
use Rattle.session_core.specs.Signed.{HasSignature}
use Rattle.run_audit.proofs.LineLists.{one_line, one_line-from}

-- a letter is no line feed
coordinate-line : (letter n : ℕ) → IsCoordinate letter n → letter ≢ 10
coordinate-line letter n (inl is) e = omega (arith, is.1, e)
coordinate-line letter n (inr is) e = omega (arith, is.2, e)

-- nor are the two bytes of a place
pair-line : (point : Option Point) (first second : ℕ) → IsPair point first second → (first ≢ 10) × (second ≢ 10)
pair-line None first second is = (λ e. omega (arith, is.0, e), λ e. omega (arith, is.1, e))
pair-line (Some p) first second is = (coordinate-line first p.x is.0, coordinate-line second p.y is.1)

-- twelve bytes by six places
by-places : (bytes : List ℕ) → length bytes ≡ 12 → ((place : ℕ) → place < 6 → (slice_index bytes (2 * place) ≢ 10) × (slice_index bytes (2 * place + 1) ≢ 10)) → All (λ b. b ≢ 10) bytes
by-places bytes twelve each k d below e =
    let place = k / 2 in
    let both = each place (omega arith) in
    let read : slice_index bytes k ≡ 10 = get_or_default bytes k 0 d below ∙ e in
    elim (cases_eq (k % 2) 0) [
      | inl even ↦ both.0 (ap (slice_index bytes) {x = 2 * place} {y = k} (omega arith) ∙ read)
      | inr odd ↦ both.1 (ap (slice_index bytes) {x = 2 * place + 1} {y = k} (omega arith) ∙ read)
    ]

pub form-line : (tree : Tree) (signature form : List ℕ) → HasSignature tree signature form → one_line form ≡ true
form-line tree signature form h =
    let image = h.canonical.is_image.is_moved in
    one_line-from form (by-places form image.twelve (λ place below. let at = image.each place below in pair-line _ (slice_index form (2 * place)) (slice_index form (2 * place + 1)) at.2))
