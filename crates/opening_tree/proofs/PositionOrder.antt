-- The order of positions: one of two comes first, or they are one.
use Prim.Native.Nat.{zero}
use Rattle.std.proofs.Common.{◌≡◌, ◌≢◌, ℕ, suc, ◌<◌, ◌⊎◌, inl, inr, [], ◌∷◌, length, refl, sym, ap, ◌∙◌, subst, arith}
use Rattle.std.proofs.lemmas.Bool.{cases_order}
use Rattle.kb_geometry.specs.declared.stone.Cell.{Cell}
use Rattle.kb_geometry.specs.declared.stone.Cell.TheVariants as cell
use Rattle.kb_geometry.specs.Capture.{Position, cell_at}
use Rattle.opening_tree.specs.Canonical.{IsBefore, rank_of}

-- a cell is known by its rank
pub same_rank : (c d : Cell) → rank_of c ≡ rank_of d → c ≡ d
same_rank cell.Empty cell.Empty e = refl
same_rank cell.Empty cell.Black e = absurd (omega (arith, e))
same_rank cell.Empty cell.White e = absurd (omega (arith, e))
same_rank cell.Black cell.Empty e = absurd (omega (arith, e))
same_rank cell.Black cell.Black e = refl
same_rank cell.Black cell.White e = absurd (omega (arith, e))
same_rank cell.White cell.Empty e = absurd (omega (arith, e))
same_rank cell.White cell.Black e = absurd (omega (arith, e))
same_rank cell.White cell.White e = refl

-- none comes before itself
pub not_before_itself : (a : Position) → ¬ IsBefore a a
not_before_itself a before = omega (arith, before.less_there)

-- a chain of two
pub IsBefore-trans : (a b c : Position) → IsBefore a b → IsBefore b c → IsBefore a c
IsBefore-trans a b c first second =
    elim (cases_order first.point second.point) [
      | inl e ↦
          let less : rank_of (cell_at b first.point) < rank_of (cell_at c first.point) = subst (λ p. rank_of (cell_at b p) < rank_of (cell_at c p)) (sym e) second.less_there in
          record {
            point = first.point;
            same_before = λ p lt. first.same_before p lt ∙ second.same_before p (omega (arith, lt, e));
            less_there = omega (arith, first.less_there, less);
          }
      | inr other ↦ elim other [
        | inl lower ↦ record {
          point = first.point;
          same_before = λ p lt. first.same_before p lt ∙ second.same_before p (omega (arith, lt, lower));
          less_there = omega (arith, first.less_there, ap rank_of (second.same_before first.point lower));
        }
        | inr upper ↦ record {
          point = second.point;
          same_before = λ p lt. first.same_before p (omega (arith, lt, upper)) ∙ second.same_before p lt;
          less_there = omega (arith, second.less_there, ap rank_of (first.same_before second.point upper));
        }
      ]
    ]

-- one cell more in front
before_behind : (c : Cell) (a b : Position) → IsBefore a b → IsBefore (c ∷ a) (c ∷ b)
before_behind c a b before = record { point = suc before.point; same_before = same; less_there = before.less_there }
  where
    same : (p : ℕ) → p < suc before.point → cell_at (c ∷ a) p ≡ cell_at (c ∷ b) p
    same zero lt = refl
    same (suc p) lt = before.same_before p (omega arith)

before_here : (c d : Cell) (a b : Position) → rank_of c < rank_of d → IsBefore (c ∷ a) (d ∷ b)
before_here c d a b less = record { point = 0; same_before = λ p lt. absurd (omega (arith, lt)); less_there = less }

-- of two positions of as many points one comes first, or they are one
pub one_first : (a b : Position) → length a ≡ length b → (IsBefore a b) ⊎ ((a ≡ b) ⊎ (IsBefore b a))
one_first [] [] long = inr (inl refl)
one_first [] (d ∷ b) long = absurd (omega (arith, long))
one_first (c ∷ a) [] long = absurd (omega (arith, long))
one_first (c ∷ a) (d ∷ b) long =
    elim (cases_order (rank_of c) (rank_of d)) [
      | inl e ↦
          let here : c ≡ d = same_rank c d e in
          elim (one_first a b (omega (arith, long))) [
            | inl before ↦ inl (subst (λ (x : Cell). IsBefore (c ∷ a) (x ∷ b)) here (before_behind c a b before))
            | inr other ↦ elim other [
              | inl same ↦ inr (inl (ap (λ x. x ∷ a) here ∙ ap (λ xs. d ∷ xs) same))
              | inr behind ↦ inr (inr (subst (λ (x : Cell). IsBefore (d ∷ b) (x ∷ a)) (sym here) (before_behind d b a behind)))
            ]
          ]
      | inr other ↦ elim other [
        | inl less ↦ inl (before_here c d a b less)
        | inr more ↦ inr (inr (before_here d c b a more))
      ]
    ]

-- two positions of which none comes before the other are one
pub same_from_order : (a b : Position) → length a ≡ length b → ¬ IsBefore a b → ¬ IsBefore b a → a ≡ b
same_from_order a b long first second =
    elim (one_first a b long) [
      | inl before ↦ absurd (first before)
      | inr other ↦ elim other [ inl same ↦ same | inr behind ↦ absurd (second behind) ]
    ]

-- whether two positions are one
pub same_or_not : (a b : Position) → length a ≡ length b → (a ≡ b) ⊎ (a ≢ b)
same_or_not a b long =
    elim (one_first a b long) [
      | inl before ↦ inr (λ e. not_before_itself b (subst (λ (x : Position). IsBefore x b) e before))
      | inr other ↦ elim other [
        | inl same ↦ inl same
        | inr behind ↦ inr (λ e. not_before_itself b (subst (λ (x : Position). IsBefore b x) e behind))
      ]
    ]
