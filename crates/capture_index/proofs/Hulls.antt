-- The hull of what is wanted, from the last node back.
use Rattle.kb_geometry.specs.declared.stone.Cell.TheVariants as stone
use Prim.Native.Nat.{min}
use Rattle.std.proofs.Common.{◌≡◌, ℕ, ◌+◌, ◌<◌, ◌≤◌, ◌↔◌, Bool, false, List, length, get_or, drop, refl, sym, ◌∙◌, ap, arith}
use Rattle.std.proofs.Math.Nat.{min-le_left, min-le_right}
use Rattle.std.proofs.lemmas.List.{drop_all}
use Rattle.std.specs.Prelude.{IsTrue}
use Rattle.capture_index.specs.declared.run.Run.{Run}
use Rattle.ready_images.specs.declared.want.Want.{Want}
use Rattle.capture_index.specs.Hulls.{IsHullTo}
use Rattle.capture_index.specs.Lists.{IsWantedBy}
use Rattle.capture_index.specs.Runs.{AreToldBehind, cell_by}
use Rattle.capture_index.specs.Stretches.{is_wanted}
use Rattle.capture_index.proofs.Cells.{cell_by-first}
use Rattle.capture_index.proofs.CutRuns.{told-past, told-sooner, told-step}

-- no node yet
pub hull-start : (IsWanted : ℕ → Type 0) (end : ℕ) → IsHullTo IsWanted end end (record { from = end; to = end; gap = false })
hull-start IsWanted end = record {
  kept = λ n le lt w. absurd (omega arith);
  whole = λ e n le lt. absurd (omega arith);
  above = omega arith;
  ordered = omega arith;
  below = omega arith;
  none = λ e. refl;
}

-- ---- the cells of a run, and those before all runs
module _ (runs : List Run) (want : Want) (count next : ℕ) (told : AreToldBehind runs count next) where
  pub run-cells : (d : Run) (first : ℕ) (wanted : Bool) → count < length runs → first ≡ (get_or runs count d).first → wanted ≡ is_wanted want (get_or runs count d).cell → (n : ℕ) → first ≤ n → n < next → IsWantedBy want runs n ↔ IsTrue wanted
  run-cells d first wanted lt first_is wanted_is n le under =
      let same = ap (is_wanted want) (told-step runs count next d lt told n under ∙ cell_by-first (get_or runs count d) (drop (count + 1) runs) n (omega (arith, first_is))) ∙ sym wanted_is in
      (λ w. sym same ∙ w, λ w. same ∙ w)

  pub cells-before : (wanted : Bool) → wanted ≡ is_wanted want stone.Empty → length runs ≤ count → (n : ℕ) → 0 ≤ n → n < next → IsWantedBy want runs n ↔ IsTrue wanted
  cells-before wanted wanted_is all n le under =
      let same = ap (is_wanted want) (told n under ∙ ap (λ (rs : List Run). cell_by rs n) (drop_all count runs all)) ∙ sym wanted_is in
      (λ w. sym same ∙ w, λ w. same ∙ w)

  pub told-next : (d : Run) (first : ℕ) → count < length runs → first ≡ (get_or runs count d).first → AreToldBehind runs (count + 1) (min next first)
  told-next d first lt first_is =
      told-past runs count (min next first) first d lt first_is (min-le_right next first) (told-sooner runs count (min next first) next (min-le_left next first) told)
