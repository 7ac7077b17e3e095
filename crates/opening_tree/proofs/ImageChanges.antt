-- The images of a position with one more cell put, and of the empty board. Which symmetries a board allows.
use Rattle.std.proofs.Common.{◌≡◌, ◌≢◌, ℕ, ◌<◌, inl, inr, cond, length, set, sym, ap, ◌∙◌, subst, arith}
use Rattle.std.proofs.lemmas.Bool.{cases_eq, cases_lt}
use Rattle.std.proofs.lemmas.Bool.Decides.{eqb_tells}
use Rattle.std.proofs.lemmas.List.{get_or-replicate, get_or-set_other, get_or-set_same, length-replicate, length-set}
use Rattle.kb_geometry.specs.declared.shape.Point.{Point}
use Rattle.kb_geometry.specs.declared.shape.Shape.{Shape}
use Rattle.kb_geometry.specs.declared.stone.Cell.{Cell}
use Rattle.kb_geometry.specs.declared.stone.Cell.TheVariants as cell
use Rattle.kb_geometry.specs.Board.{IsOnBoard, cols_of, number_of, point_count, rows_of}
use Rattle.kb_geometry.specs.Capture.{Position, cell_at, empty_board}
use Rattle.kb_geometry.specs.Symmetry.{IsAllowed, inverse_number, moved}
use Rattle.kb_geometry.proofs.Shapes.{number_of-lt-count}
use Rattle.kb_geometry.proofs.Symmetries.{moved-inverse, moved-on_board}
use Rattle.opening_tree.specs.Canonical.{Brings}
use Rattle.opening_tree.specs.Frames.{symmetries_of}
use Rattle.opening_tree.proofs.PositionImages.{same_point_from_number}

-- ---- the symmetries of a board

pub symmetry-allowed : (shape : Shape) (n : ℕ) → n < symmetries_of shape → (n < 8) × IsAllowed n shape
symmetry-allowed shape n lt =
    elim (eqb_tells (cols_of shape) (rows_of shape)) [
      | inl (e, is) ↦
          let below : n < 8 = subst (λ b. n < cond b 8 4) e lt in
          (below, λ le. is)
      | inr (e, ne) ↦
          let below : n < 4 = subst (λ b. n < cond b 8 4) e lt in
          (omega (arith, below), λ le. absurd (omega (arith, below, le)))
    ]

pub allowed-symmetry : (shape : Shape) (n : ℕ) → n < 8 → IsAllowed n shape → n < symmetries_of shape
allowed-symmetry shape n lt allowed =
    elim (eqb_tells (cols_of shape) (rows_of shape)) [
      | inl (e, is) ↦ subst (λ b. n < cond b 8 4) (sym e) lt
      | inr (e, ne) ↦ elim (cases_lt n 4) [
        | inl low ↦ subst (λ b. n < cond b 8 4) (sym e) low
        | inr le ↦ absurd (ne (allowed le))
      ]
    ]

-- ---- one cell more

module _ (shape : Shape) (s : ℕ) where
  -- two points that are moved to one point are one
  same_moved : (p q : Point) → s < 8 → IsAllowed s shape → IsOnBoard shape p → IsOnBoard shape q → number_of shape (moved s shape p) ≡ number_of shape (moved s shape q) → p ≡ q
  same_moved p q lt allowed on_p on_q e =
      let there : moved s shape p ≡ moved s shape q = same_point_from_number shape (moved s shape p) (moved s shape q) (moved-on_board shape p on_p s lt allowed) (moved-on_board shape q on_q s lt allowed) e in
      sym (moved-inverse shape p on_p s lt allowed) ∙ ap (moved (inverse_number s) shape) there ∙ moved-inverse shape q on_q s lt allowed

  module _ (position image : Position) (long : length position ≡ point_count shape) (brings : Brings shape s position image) (p : Point) (on : IsOnBoard shape p) (stone : Cell) where
    pub Brings-set : Brings shape s (set position (number_of shape p) stone) (set image (number_of shape (moved s shape p)) stone)
    Brings-set = record {
      is_symmetry = brings.is_symmetry;
      is_allowed = brings.is_allowed;
      each_point = length-set image (number_of shape (moved s shape p)) stone ∙ brings.each_point;
      is_moved = λ q on_q. elim (cases_eq (number_of shape q) (number_of shape p)) [
        | inl e ↦
            let same : q ≡ p = same_point_from_number shape q p on_q on e in
            let below : number_of shape (moved s shape p) < point_count shape = number_of-lt-count shape (moved s shape p) (moved-on_board shape p on s brings.is_symmetry brings.is_allowed) in
            ap (λ (r : Point). cell_at (set image (number_of shape (moved s shape p)) stone) (number_of shape (moved s shape r))) same
            ∙ get_or-set_same image (number_of shape (moved s shape p)) stone cell.Empty (omega (arith, below, brings.each_point))
            ∙ sym (ap (λ k. cell_at (set position (number_of shape p) stone) k) e ∙ get_or-set_same position (number_of shape p) stone cell.Empty (omega (arith, number_of-lt-count shape p on, long)))
        | inr ne ↦
            let other : number_of shape (moved s shape q) ≢ number_of shape (moved s shape p) = λ e. ne (ap (number_of shape) (same_moved q p brings.is_symmetry brings.is_allowed on_q on e)) in
            get_or-set_other image (number_of shape (moved s shape p)) (number_of shape (moved s shape q)) stone cell.Empty other
            ∙ brings.is_moved q on_q
            ∙ sym (get_or-set_other position (number_of shape p) (number_of shape q) stone cell.Empty ne)
      ];
    }

  -- ---- the empty board

  pub Brings-empty : s < 8 → IsAllowed s shape → Brings shape s (empty_board shape) (empty_board shape)
  Brings-empty lt allowed = record {
    is_symmetry = lt;
    is_allowed = allowed;
    each_point = length-replicate (point_count shape) cell.Empty;
    is_moved = λ p on.
        get_or-replicate (point_count shape) (number_of shape (moved s shape p)) cell.Empty cell.Empty (number_of-lt-count shape (moved s shape p) (moved-on_board shape p on s lt allowed))
        ∙ sym (get_or-replicate (point_count shape) (number_of shape p) cell.Empty cell.Empty (number_of-lt-count shape p on));
  }
