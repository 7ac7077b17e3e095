-- The test of two positions tells whether they are one, that of two moves whether they are one, and counts grow one by one.
use Rattle.std.proofs.Common.{◌≡◌, ℕ, ◌+◌, ◌⊎◌, inl, inr, Bool, true, false, cond, List, [], ◌∷◌, ◌++◌, length, length-append, Option, Some, None, refl, sym, ap, ◌∙◌}
use Rattle.std.specs.Prelude.{count_by, filter}
use Rattle.std.specs.Cmp.Lexicographic.{pointwise_decides}
use Rattle.std.proofs.lemmas.Bool.{and_from, and_parts, eq-eqb, eqb-true, false≢true}
use Rattle.std.proofs.lemmas.List.Elements.{filter-append}
use Rattle.std.proofs.lemmas.List.Sums.{length-filter}
use Rattle.kb_geometry.specs.declared.stone.Cell.{Cell}
use Rattle.kb_geometry.specs.declared.shape.Point.{Point}
use Rattle.kb_geometry.specs.declared.stone.Colour.{Colour}
use Rattle.kb_geometry.specs.declared.stone.Colour.TheVariants as colour
use Rattle.kb_geometry.specs.Capture.{Position}
use Rattle.kb_geometry.proofs.Symmetries.{same_point}
use Rattle.game_tree.specs.declared.node.Move.{Move}
use Rattle.opening_tree.specs.Canonical.{rank_of}
use Rattle.kb_geometry.specs.Counts.{one_if}
use Rattle.opening_tree.specs.Openings.{is_same_cell, is_same_colour, is_same_place, is_same_play, is_same_position}
use Rattle.opening_tree.proofs.PositionOrder.{same_rank}

-- a test is true or false
pub told : (b : Bool) → (b ≡ true) ⊎ (b ≡ false)
told true = inl refl
told false = inr refl

-- ---- positions

same_cell : (c d : Cell) → (is_same_cell c d ≡ true → c ≡ d) × (c ≡ d → is_same_cell c d ≡ true)
same_cell c d = (
  λ e. same_rank c d (eqb-true (rank_of c) (rank_of d) e),
  λ e. eq-eqb (rank_of c) (rank_of d) (ap rank_of e),
)

pub same_position : (a b : Position) → (is_same_position a b ≡ true → a ≡ b) × (a ≡ b → is_same_position a b ≡ true)
same_position a b = pointwise_decides same_cell a b

-- ---- moves

same_colour : (a b : Colour) → is_same_colour a b ≡ true → a ≡ b
same_colour colour.Black colour.Black e = refl
same_colour colour.White colour.White e = refl
same_colour colour.Black colour.White e = absurd (false≢true e)
same_colour colour.White colour.Black e = absurd (false≢true e)

own_colour : (a : Colour) → is_same_colour a a ≡ true
own_colour colour.Black = refl
own_colour colour.White = refl

same_place : (a b : Option Point) → is_same_place a b ≡ true → a ≡ b
same_place None None e = refl
same_place None (Some q) e = absurd (false≢true e)
same_place (Some p) None e = absurd (false≢true e)
same_place (Some p) (Some q) e =
    let parts = and_parts _ _ e in
    ap (λ (r : Point). Some r) (same_point p q (eqb-true p.x q.x parts.0) (eqb-true p.y q.y parts.1))

own_place : (a : Option Point) → is_same_place a a ≡ true
own_place None = refl
own_place (Some p) = and_from _ _ (eq-eqb p.x p.x refl) (eq-eqb p.y p.y refl)

pub same_play : (a b : Move) → is_same_play a b ≡ true → a ≡ b
same_play a b e =
    let parts = and_parts _ _ e in
    let side = same_colour a.colour b.colour parts.0 in
    let place = same_place a.point b.point parts.1 in
    λ i. record { colour = side i; point = place i }

pub own_play : (a : Move) → is_same_play a a ≡ true
own_play a = and_from _ _ (own_colour a.colour) (own_place a.point)

-- ---- counts

module _ {X : Type 0} (p : X → Bool) where
  pub count_by-push : (xs : List X) (x : X) → count_by p (xs ++ x ∷ []) ≡ count_by p xs + one_if (p x)
  count_by-push xs x =
      sym (length-filter p (xs ++ x ∷ []))
      ∙ ap length (filter-append p xs (x ∷ []))
      ∙ length-append (filter p xs) (filter p (x ∷ []))
      ∙ ap (λ (n : ℕ). n + length (filter p (x ∷ []))) (length-filter p xs)
      ∙ ap (λ (n : ℕ). count_by p xs + n) (one (p x))
    where
      one : (b : Bool) → length (cond b (x ∷ []) []) ≡ one_if b
      one true = refl
      one false = refl

  pub count_by-append : (xs ys : List X) → count_by p (xs ++ ys) ≡ count_by p xs + count_by p ys
  count_by-append xs ys =
      sym (length-filter p (xs ++ ys))
      ∙ ap length (filter-append p xs ys)
      ∙ length-append (filter p xs) (filter p ys)
      ∙ (λ i. length-filter p xs i + length-filter p ys i)

  -- a list with one element more, of those that pass
  pub filter-push : (xs : List X) (x : X) (b : Bool) → p x ≡ b → filter p (xs ++ x ∷ []) ≡ filter p xs ++ cond b (x ∷ []) []
  filter-push xs x b e = filter-append p xs (x ∷ []) ∙ ap (λ t. filter p xs ++ cond t (x ∷ []) []) e
