-- The images of a position while a cell is put in one after another, and while changes are made and taken back.
use Rattle.std.proofs.Common.{◌≡◌, ℕ, ◌+◌, ◌<◌, ◌≤◌, inl, inr, List, [], ◌∷◌, length, get_or, set, take, refl, sym, ap, ◌∙◌, subst, arith}
use Rattle.std.proofs.lemmas.Bool.{cases_eq}
use Rattle.std.proofs.lemmas.List.{get_or-set_other, get_or-set_same, length-set, take_more}
use Rattle.kb_geometry.specs.declared.shape.Point.{Point}
use Rattle.kb_geometry.specs.declared.shape.Shape.{Shape}
use Rattle.kb_geometry.specs.declared.stone.Cell.{Cell}
use Rattle.kb_geometry.specs.declared.stone.Change.{Change}
use Rattle.kb_geometry.specs.Board.{IsOnBoard, number_of, point_count}
use Rattle.kb_geometry.specs.Capture.{Position}
use Rattle.kb_geometry.specs.Symmetry.{moved}
use Rattle.capture_board.specs.Changes.{with_changes}
use Rattle.capture_board.specs.StoredWalking.{with_old_cells}
use Rattle.capture_board.proofs.MadeChanges.{with_changes-append, with_old_cells-append}
use Rattle.opening_tree.specs.Canonical.{Brings}
use Rattle.opening_tree.specs.Frames.{AreImages, image_in, symmetries_of}
use Rattle.opening_tree.proofs.ImageChanges.{Brings-set}

-- the first so many images have the cell, the others don't yet
pub record ArePutTo (shape : Shape) (position : Position) (point : ℕ) (stone : Cell) (n : ℕ) (images : List Position) : Type 0 where
  pub count : length images ≡ symmetries_of shape
  pub put : (k : ℕ) → k < n → Brings shape k (set position point stone) (image_in images k)
  pub left : (k : ℕ) → n ≤ k → k < symmetries_of shape → Brings shape k position (image_in images k)

module _ (shape : Shape) (position : Position) (long : length position ≡ point_count shape) (point : ℕ) (stone : Cell) where
  pub put-start : (images : List Position) → AreImages shape position images → ArePutTo shape position point stone 0 images
  put-start images are = record { count = are.count; put = λ k lt. absurd (omega (arith, lt)); left = λ k le lt. are.each k (omega (arith, lt, are.count)) }

  pub put-more : (n : ℕ) (images more : List Position) (p to : Point) (at : ℕ) → n < symmetries_of shape → IsOnBoard shape p → number_of shape p ≡ point → to ≡ moved n shape p → at ≡ number_of shape to → ArePutTo shape position point stone n images → more ≡ set images n (set (image_in images n) at stone) → ArePutTo shape position point stone (n + 1) more
  put-more n images more p to at lt on number moved_is at_is are made =
      let image = image_in images n in
      let there : at ≡ number_of shape (moved n shape p) = at_is ∙ ap (number_of shape) moved_is in
      let new : Brings shape n (set position point stone) (set (image_in images n) at stone) =
      subst (λ k. Brings shape n (set position k stone) (set image at stone)) number
      (subst (λ k. Brings shape n (set position (number_of shape p) stone) (set image k stone)) (sym there) (Brings-set shape n position image long (are.left n (omega arith) lt) p on stone)) in
      subst (ArePutTo shape position point stone (n + 1)) (sym made) (record {
        count = length-set images n (set image at stone) ∙ are.count;
        put = λ k below. elim (cases_eq k n) [
          | inl e ↦
              let here : image_in (set images n (set image at stone)) k ≡ set image at stone = ap (λ j. image_in (set images n (set image at stone)) j) e ∙ get_or-set_same images n (set image at stone) [] (omega (arith, lt, are.count)) in
              subst (λ (x : Position). Brings shape k (set position point stone) x) (sym here) (subst (λ j. Brings shape j (set position point stone) (set image at stone)) (sym e) new)
          | inr ne ↦
              subst (λ (x : Position). Brings shape k (set position point stone) x) (sym (get_or-set_other images n k (set image at stone) [] ne)) (are.put k (omega (arith, below, ne)))
        ];
        left = λ k le below.
            subst (λ (x : Position). Brings shape k position x) (sym (get_or-set_other images n k (set image at stone) [] (λ e. omega (arith, e, le)))) (are.left k (omega (arith, le)) below);
      })

  pub put-more-here : (here : Shape) → here ≡ shape → (n : ℕ) (images more : List Position) (p to : Point) (at turn count : ℕ) → n < count → count ≡ symmetries_of here → IsOnBoard here p → number_of here p ≡ point → turn ≡ n → to ≡ moved turn here p → at ≡ number_of here to
      → ArePutTo shape position point stone n images → more ≡ set images n (set (image_in images n) at stone) → ArePutTo shape position point stone (n + 1) more
  put-more-here here e n images more p to at turn count lt counted on number turned moved_is at_is are made =
      put-more n images more p to at (subst (λ k. n < k) (counted ∙ ap symmetries_of e) lt) (subst (λ (s : Shape). IsOnBoard s p) e on) (ap (λ (s : Shape). number_of s p) (sym e) ∙ number)
      (moved_is ∙ ap (λ k. moved k here p) turned ∙ ap (λ (s : Shape). moved n s p) e) (at_is ∙ ap (λ (s : Shape). number_of s to) e) are made

  pub put-end : (n : ℕ) (images : List Position) → symmetries_of shape ≤ n → ArePutTo shape position point stone n images → AreImages shape (set position point stone) images
  put-end n images le are = record { count = are.count; each = λ k lt. are.put k (omega (arith, lt, le, are.count)) }

-- ---- one change more

module _ (position : Position) (cs : List Change) (i : ℕ) (d : Change) (lt : i < length cs) where
  pub changes-more : with_changes position (take (i + 1) cs) ≡ set (with_changes position (take i cs)) (get_or cs i d).point (get_or cs i d).new
  changes-more = ap (with_changes position) (take_more cs i d lt) ∙ with_changes-append position (take i cs) (get_or cs i d ∷ [])

  pub old_cells-more : with_old_cells position (take (i + 1) cs) ≡ set (with_old_cells position (take i cs)) (get_or cs i d).point (get_or cs i d).old
  old_cells-more = ap (with_old_cells position) (take_more cs i d lt) ∙ with_old_cells-append position (take i cs) (get_or cs i d ∷ [])

pub length-with_old_cells : (position : Position) (cs : List Change) → length (with_old_cells position cs) ≡ length position
length-with_old_cells position [] = refl
length-with_old_cells position (c ∷ cs) = length-with_old_cells (set position c.point c.old) cs ∙ length-set position c.point c.old

-- a cell that is put on the point of a change
pub change-put : (here shape : Shape) → here ≡ shape → (before next : Position) → length before ≡ point_count shape → (images more : List Position) (point : ℕ) (stone : Cell) → next ≡ set before point stone
    → ((p : Position) → length p ≡ point_count here → AreImages here p images → AreImages here (set p point stone) more) → AreImages shape before images → AreImages shape next more
change-put here shape e before next long images more point stone is put are =
    subst (λ (p : Position). AreImages shape p more) (sym is)
    (subst (λ (s : Shape). AreImages s (set before point stone) more) e
    (put before (long ∙ ap point_count (sym e)) (subst (λ (s : Shape). AreImages s before images) (sym e) are)))
