-- Moves and setups of a value, by its text without white space at either end.
use Rattle.std.proofs.Common.{◌≡◌, ◌<◌, ◌≤◌, ◌∙◌, ◌⊎◌, ◌==◌, ℕ, List, [], ◌∷◌, ◌++◌, length, length-append, ap, true, false, Bool, IsTrue, arith, Option, Some, None, refl, sym, subst, codes, inl, inr}
use Rattle.std.proofs.lemmas.Bool.{eq-eqb, eqb-true}
use Rattle.std.proofs.lemmas.List.Elements.{All-nil}
use Rattle.kb_geometry.specs.declared.shape.Point.{Point}
use Rattle.kb_geometry.specs.declared.shape.Rect.{Rect}
use Rattle.kb_geometry.specs.declared.shape.Shape.{Shape}
use Rattle.kb_geometry.specs.Board.{cols_of, rows_of}
use Rattle.game_tree.specs.Property.{IsTrimmed}
use Rattle.game_tree.specs.Value.{IsCoordinate, IsMoveText, IsMoveValue, IsPoint, IsSetupText, IsSetupValue, ignored, letters, pass, pass_tt, point}
use Rattle.game_tree.proofs.Trimming.{IsTrimmed-only}

-- which texts are a pass
pub pass_texts : (shape : Shape) (text : List ℕ) → IsMoveText shape text None → (text ≡ []) ⊎ ((cols_of shape ≤ 19) × (rows_of shape ≤ 19) × (text ≡ codes "tt"))
pass_texts shape _ pass = inl refl
pass_texts shape _ (pass_tt cols rows) = inr (cols, rows, refl)

pub empty_pass : (shape : Shape) (text : List ℕ) → text ≡ [] → IsMoveText shape text None
empty_pass shape text is = subst (λ t. IsMoveText shape t None) (sym is) pass

pub written_pass : (shape : Shape) (text : List ℕ) → text ≡ codes "tt" → cols_of shape ≤ 19 → rows_of shape ≤ 19 → IsMoveText shape text None
written_pass shape text is cols rows = subst (λ t. IsMoveText shape t None) (sym is) (pass_tt cols rows)

-- which text plays at a point
pub point_text_of : (shape : Shape) (text : List ℕ) (p : Point) → IsMoveText shape text (Some p) → IsPoint shape text p
point_text_of shape text p (point at) = at

-- a value is no move where its text is none
pub no_move : (shape : Shape) (value text : List ℕ) → IsTrimmed value text → ¬ IsMoveText shape text None → ((p : Point) → ¬ IsPoint shape text p) → (move : Option Point) → ¬ IsMoveValue shape value move
no_move shape value text trimmed no_pass no_point None (inner, t, is) = no_pass (subst (λ t. IsMoveText shape t None) (IsTrimmed-only value inner text t trimmed) is)
no_move shape value text trimmed no_pass no_point (Some p) (inner, t, is) = no_point p (point_text_of shape text p (subst (λ t. IsMoveText shape t (Some p)) (IsTrimmed-only value inner text t trimmed) is))

pub move_at : (shape : Shape) (value text : List ℕ) (p : Point) → IsTrimmed value text → IsPoint shape text p → IsMoveValue shape value (Some p)
move_at shape value text p trimmed at = (text, trimmed, point at)

-- ---- a point's text has no white space at either end

letter_above : (letter n : ℕ) → IsCoordinate letter n → 32 < letter
letter_above letter n (inl (low, is)) = omega (arith, is)
letter_above letter n (inr (high, low, is)) = omega (arith, is)

last_of_two : (column row b : ℕ) (rest : List ℕ) → column ∷ row ∷ [] ≡ rest ++ b ∷ [] → row ≡ b
last_of_two column row b [] e = cc
last_of_two column row b (x ∷ []) e = cc
last_of_two column row b (x ∷ y ∷ rest) e = let l : 2 ≡ length ((x ∷ y ∷ rest) ++ b ∷ []) = ap length e in absurd (omega (arith, l, length-append (x ∷ y ∷ rest) (b ∷ [])))

point_trimmed : (shape : Shape) (text : List ℕ) (p : Point) → IsPoint shape text p → IsTrimmed text text
point_trimmed shape _ p (letters column row c r on) = record {
  before = [];
  after = [];
  split = refl;
  white_before = All-nil (λ (b : ℕ). b ≤ 32);
  white_after = All-nil (λ (b : ℕ). b ≤ 32);
  first = λ b rest e. let is : column ≡ b = cc in omega (arith, is, letter_above column p.x c);
  last = λ b rest e. omega (arith, last_of_two column row b rest e, letter_above row p.y r);
}

-- two letters alone are a move
pub bare_move : (shape : Shape) (value : List ℕ) (p : Point) → IsPoint shape value p → IsMoveValue shape value (Some p)
bare_move shape value p at = move_at shape value value p (point_trimmed shape value p at) at

-- which text is ignored
pub ignored_text : (shape : Shape) (text : List ℕ) → IsSetupText shape text None → text ≡ []
ignored_text shape _ ignored = refl

-- a value is no setup where its text is none
pub no_setup : (shape : Shape) (value text : List ℕ) → IsTrimmed value text → ¬ (text ≡ []) → ((r : Rect) → ¬ IsSetupText shape text (Some r)) → (rect : Option Rect) → ¬ IsSetupValue shape value rect
no_setup shape value text trimmed some rect None (inner, t, is) = some (ignored_text shape text (subst (λ t. IsSetupText shape t None) (IsTrimmed-only value inner text t trimmed) is))
no_setup shape value text trimmed some rect (Some r) (inner, t, is) = rect r (subst (λ t. IsSetupText shape t (Some r)) (IsTrimmed-only value inner text t trimmed) is)

pub nothing_set : (shape : Shape) (value text : List ℕ) → IsTrimmed value text → text ≡ [] → IsSetupValue shape value None
nothing_set shape value text trimmed is = (text, trimmed, subst (λ t. IsSetupText shape t None) (sym is) ignored)

pub empty_is : (text : List ℕ) → true ≡ (length text == 0) → text ≡ []
empty_is [] e = refl
empty_is (b ∷ text) e = absurd (omega (arith, eqb-true (length (b ∷ text)) 0 (sym e)))

pub not_empty : (text : List ℕ) → false ≡ (length text == 0) → ¬ (text ≡ [])
not_empty text e is = let there : (length text == 0) ≡ true = eq-eqb (length text) 0 (ap length is) in cc

-- `tt` is a pass exactly on boards where it is one
pub written_pass_on : (shape : Shape) (text : List ℕ) (small : Bool) → text ≡ codes "tt" → (IsTrue small → (cols_of shape ≤ 19) × (rows_of shape ≤ 19)) → ((cols_of shape ≤ 19) × (rows_of shape ≤ 19) → IsTrue small) → (IsTrue small → IsMoveText shape text None) × (IsMoveText shape text None → IsTrue small)
written_pass_on shape text small is to from = (λ t. written_pass shape text is (to t).0 (to t).1, λ m. elim (pass_texts shape text m) [ inl none ↦ absurd (different (sym is ∙ none)) | inr (cols, rows, _) ↦ from (cols, rows) ])
  where
    different : ¬ (codes "tt" ≡ [])
    different e = let l : length (codes "tt") ≡ 0 = ap length e in omega (arith, l)
