-- The list of rectangles of cells grows: one that isn't there yet comes behind the others.
use Rattle.std.proofs.Common.{◌≡◌, ℕ, ◌<◌, ◌≤◌, inl, inr, List, [], ◌∷◌, ◌++◌, length, sym, ◌∙◌, subst, arith}
use Rattle.std.specs.Prelude.{Contains}
use Rattle.std.proofs.lemmas.Bool.{cases_lt}
use Rattle.std.proofs.lemmas.List.{get_or_append_left, get_or_default, get_or_push, length_push}
use Rattle.pattern_images.specs.Grid.{Grid}
use Rattle.pattern_images.specs.ImageList.{grid_at, no_grid, AreDistinct}
use Rattle.pattern_images.specs.Turns.{HasGrown}

grid_at-there : (grids : List Grid) (k : ℕ) (g : Grid) → k < length grids → grid_at grids k ≡ g → Contains grids g
grid_at-there grids k g below is = (k, below, get_or_default grids k g no_grid below ∙ is)

module _ (grids : List Grid) (g : Grid) (new : ¬ Contains grids g) where
  old_at : (k : ℕ) → k < length grids → grid_at (grids ++ g ∷ []) k ≡ grid_at grids k
  old_at k below = get_or_append_left grids (g ∷ []) no_grid k below

  new_at : (k : ℕ) → length grids ≤ k → k < length (grids ++ g ∷ []) → grid_at (grids ++ g ∷ []) k ≡ g
  new_at k from below = let last : length grids ≡ k = omega (arith, length_push grids g) in get_or_push grids g no_grid k last

  distinct-push : AreDistinct grids → AreDistinct (grids ++ g ∷ [])
  distinct-push distinct i j i_in j_in same =
      elim (cases_lt i (length grids)) [
        | inl i_old ↦ elim (cases_lt j (length grids)) [
          | inl j_old ↦ distinct i j i_old j_old (sym (old_at i i_old) ∙ same ∙ old_at j j_old)
          | inr j_new ↦ absurd (new (grid_at-there grids i g i_old (sym (old_at i i_old) ∙ same ∙ new_at j j_new j_in)))
        ]
        | inr i_new ↦ elim (cases_lt j (length grids)) [
          | inl j_old ↦ absurd (new (grid_at-there grids j g j_old (sym (old_at j j_old) ∙ sym same ∙ new_at i i_new i_in)))
          | inr j_new ↦ omega (arith, length_push grids g)
        ]
      ]

  HasGrown-push : HasGrown grids (grids ++ g ∷ [])
  HasGrown-push = record {
    few = omega (arith, length_push grids g);
    kept = λ k below. (omega (arith, length_push grids g), old_at k below);
    distinct = distinct-push;
  }

-- after a push
pub HasGrown-pushed : (before after : List Grid) (g : Grid) → ¬ Contains before g → after ≡ before ++ g ∷ [] → HasGrown before after
HasGrown-pushed before after g new is = subst (HasGrown before) (sym is) (HasGrown-push before g new)
