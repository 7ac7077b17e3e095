-- The points of changes, and a rectangle that holds them.
use Rattle.std.proofs.Common.{◌≡◌, ℕ, ◌+◌, ◌<◌, ◌≤◌, ◌⊎◌, ◌↔◌, inl, inr, List, [], length, get_or, sym, ap, ◌∙◌, arith, subst, Contains}
use Rattle.std.proofs.lemmas.Bool.{cases_eq}
use Rattle.std.proofs.lemmas.List.{get_or_default}
use Rattle.kb_geometry.specs.declared.shape.Shape.{Shape}
use Rattle.kb_geometry.specs.declared.shape.Point.{Point}
use Rattle.kb_geometry.specs.declared.shape.Rect.{Rect}
use Rattle.kb_geometry.specs.declared.stone.Change.{Change}
use Rattle.kb_geometry.specs.declared.stone.Cell.{Cell}
use Rattle.kb_geometry.specs.declared.stone.Cell.TheVariants as cell
use Rattle.kb_geometry.specs.Board.{IsInside, IsOnBoard, number_of}
use Rattle.line_matcher.specs.Areas.{HoldsChanges, IsWidenedBy}
use Rattle.line_matcher.specs.Concerned.{ArePointsWith, Concerns, IsWithChange}

-- the change with this number, or one of point 0
abbrev pub change_at : List Change → ℕ → Change
change_at changes k = get_or changes k (record { point = 0; old = cell.Empty; new = cell.Empty })

-- one of the first n changes is on the point and has this stone
abbrev pub ConcernsBelow : Cell → List Change → ℕ → ℕ → Type 0
ConcernsBelow s changes n p = (k : ℕ) × (k < n) × Concerns s (change_at changes k) p

-- the points of the first n changes lie in the rectangle
abbrev pub HoldsBelow : Shape → List Change → ℕ → Rect → Type 0
HoldsBelow shape changes n r = (k : ℕ) → k < n → (p : Point) → IsOnBoard shape p → number_of shape p ≡ (change_at changes k).point → IsInside r p

-- ---- the sets of the points

-- the point of a change that has the stone is added
pub IsWithChange-insert : (s : Cell) (c : Change) (old new : List ℕ) → (c.old ≡ s) ⊎ (c.new ≡ s) → ((p : ℕ) → Contains new p ↔ (Contains old p ⊎ (p ≡ c.point))) → IsWithChange s c old new
IsWithChange-insert s c old new has insert p = (
  λ h. elim ((insert p).0 h) [ inl was ↦ inl was | inr here ↦ inr (sym here, has) ],
  λ h. elim h [ inl was ↦ (insert p).1 (inl was) | inr is ↦ (insert p).1 (inr (sym is.0)) ],
)

-- before the first change there is none
pub ConcernsBelow-start : (s : Cell) (changes : List Change) (points : List ℕ) → points ≡ [] → (p : ℕ) → Contains points p ↔ ConcernsBelow s changes 0 p
ConcernsBelow-start s changes points none p = (
  λ h. absurd (omega (arith, h.1, ap (λ (ps : List ℕ). length ps) none)),
  λ (k, lt, is). absurd (omega arith),
)

-- one change more
pub ConcernsBelow-more : (s : Cell) (changes : List Change) (n : ℕ) (old new : List ℕ) → ((p : ℕ) → Contains old p ↔ ConcernsBelow s changes n p) →
    IsWithChange s (change_at changes n) old new → (p : ℕ) → Contains new p ↔ ConcernsBelow s changes (n + 1) p
ConcernsBelow-more s changes n old new before insert p = (
  λ h. elim ((insert p).0 h) [
    | inl was ↦ let k = (before p).0 was in (k.0, omega arith, k.2)
    | inr here ↦ (n, omega arith, here)
  ],
  λ (k, lt, is). elim (cases_eq k n) [
    | inl last ↦ (insert p).1 (inr (subst (λ (i : ℕ). Concerns s (change_at changes i) p) last is))
    | inr earlier ↦ (insert p).1 (inl ((before p).1 (k, omega arith, is)))
  ],
)

-- all of them
pub ConcernsBelow-all : (s : Cell) (changes : List Change) (n : ℕ) (points : List ℕ) → length changes ≡ n → ((p : ℕ) → Contains points p ↔ ConcernsBelow s changes n p) → ArePointsWith s changes points
ConcernsBelow-all s changes n points count have p =
    let none : Change = record { point = 0; old = cell.Empty; new = cell.Empty } in (
      λ h. let k = (have p).0 h in (k.0, change_at changes k.0, omega arith, get_or_default changes k.0 (change_at changes k.0) none (omega arith), k.2),
      λ (k, c, lt, at, is). (have p).1 (k, omega arith, subst (λ (d : Change). Concerns s d p) (sym (get_or_default changes k none c lt ∙ at)) is),
    )

-- ---- the rectangle

module _ (shape : Shape) (changes : List Change) where
  -- one point more
  pub HoldsBelow-more : (n : ℕ) (r s : Rect) (q : Point) → HoldsBelow shape changes n r → IsWidenedBy r q s → ((p : Point) → IsOnBoard shape p → number_of shape p ≡ (change_at changes n).point → p ≡ q) →
      HoldsBelow shape changes (n + 1) s
  HoldsBelow-more n r s q have grown only k lt p on_board number =
      elim (cases_eq k n) [
        | inl last ↦
            let here : p ≡ q = only p on_board (number ∙ ap (λ (i : ℕ). (change_at changes i).point) last) in
            subst (IsInside s) (sym here) grown.point
        | inr earlier ↦ grown.kept p (have k (omega arith) p on_board number)
      ]

  -- all of them
  pub HoldsBelow-all : (n : ℕ) (r : Rect) → length changes ≤ n → HoldsBelow shape changes n r → HoldsChanges shape changes r
  HoldsBelow-all n r count have k d lt p on_board number =
      have k (omega arith) p on_board (number ∙ ap (λ (c : Change). c.point) (get_or_default changes k d (record { point = 0; old = cell.Empty; new = cell.Empty }) lt))
