-- What holds at a node of a game is kept, and is at a node candidate.
use Prim.Native.Nat.{zero}
use Rattle.std.proofs.Common.{◌≡◌, ◌≢◌, ℕ, suc, ◌<◌, ◌⊎◌, Option, None, Some, List, refl, sym, ◌∙◌, subst, arith, inl, inr}
use Rattle.std.specs.Prelude.{IfSome}
use Rattle.std.proofs.lemmas.Bool.{cases_Bool, cases_lt, false≢true}
use Rattle.std.proofs.lemmas.List.FromFn.{length-map-range_with_len}
use Rattle.node_paths.specs.Parents.{MayHaveParent}
use Rattle.kb_geometry.specs.declared.stone.Cell.{Cell}
use Rattle.kb_geometry.specs.Capture.{cell_at}
use Rattle.capture_board.specs.Deltas.{AreDeltas, Deltas, node_count, parent_of, position_at}
use Rattle.pattern_images.specs.declared.cell.PatternCell.{PatternCell}
use Rattle.pattern_images.specs.declared.cell.PatternCell.TheVariants as cell
use Rattle.pattern_images.specs.Grid.{cell_in}
use Rattle.pattern_images.specs.Holds.{Allows, Holds, number_under}
use Rattle.pattern_images.specs.ImageList.{placement_at}
use Rattle.pattern_images.specs.Placements.{Placement}
use Rattle.capture_index.specs.NodePositions.{HadAnother, parent_in, positions_of}
use Rattle.capture_index.proofs.NodesTold.{nodes-told}
use Rattle.capture_index.proofs.WantsOfPlacements.{cell_seen-at, parent_seen-at}
use Rattle.pattern_occurrences.specs.declared.occurrence.Occurrence.{Occurrence}
use Rattle.pattern_occurrences.specs.Occurrences.{Occurs, allows}
use Rattle.pattern_occurrences.proofs.HoldsLaw.{allows-decides}
use Rattle.candidate_sieve.specs.Kept.{IsKept, IsKeptBy}
use Rattle.candidate_sieve.specs.NodeCandidates.{IsNodeCandidate}
use Rattle.candidate_sieve.proofs.KeptPlacements.{kept-by}

-- a placement that holds at a node is kept
pub holds-kept : (deltas : Deltas) (placement : Placement) (n : ℕ) → n < node_count deltas → Holds deltas.shape (position_at deltas n) placement → IsKeptBy deltas placement
holds-kept deltas placement n lt holds = record {
  cells = λ dx dy in_cols in_rows. (n, lt, holds dx dy in_cols in_rows);
  corners = λ corner few sides covers. (n, lt, λ column row dx dy left high lies. holds dx dy lies.in_cols lies.in_rows);
}

pub occurs-kept : (deltas : Deltas) (placements : List Placement) (o : Occurrence) → Occurs deltas placements o → IsKept deltas placements
occurs-kept deltas placements o is = kept-by deltas placements o.placement is.placement_there (holds-kept deltas (placement_at placements o.placement) o.node is.node_there is.holds_there)

-- ---- where a placement doesn't hold, some cell doesn't allow what stands there

each_or_not : (n : ℕ) (P : ℕ → Type 0) → ((k : ℕ) → P k ⊎ (P k → ⊥)) → ((k : ℕ) → k < n → P k) ⊎ ((k : ℕ) × (k < n) × (P k → ⊥))
each_or_not zero P told = inl (λ k lt. absurd (omega arith))
each_or_not (suc n) P told =
    elim (each_or_not n P told) [
      | inr some ↦ inr (some.0, omega (arith, some.1), some.2)
      | inl all ↦ elim (told n) [
        | inr not ↦ inr (n, omega arith, not)
        | inl last ↦ inl (λ k lt. elim (cases_lt k n) [
          | inl below ↦ all k below
          | inr from ↦ let here : n ≡ k = omega (arith, lt, from) in subst P here last
        ])
      ]
    ]

allows-or_not : (c : PatternCell) (s : Cell) → Allows c s ⊎ (Allows c s → ⊥)
allows-or_not c s =
    elim (cases_Bool (allows c s)) [
      | inl t ↦ inl ((allows-decides c s).0 t)
      | inr f ↦ inr (λ h. false≢true (sym f ∙ (allows-decides c s).1 h))
    ]

module _ (deltas : Deltas) (placement : Placement) (m : ℕ) where
  abbrev AllowsAt : ℕ → ℕ → Type 0
  AllowsAt dx dy = Allows (cell_in placement.grid dx dy) (cell_at (position_at deltas m) (number_under deltas.shape placement dx dy))

  column-or_not : (dx : ℕ) → ((dy : ℕ) → dy < placement.grid.rows → AllowsAt dx dy) ⊎ ((dy : ℕ) × (dy < placement.grid.rows) × (AllowsAt dx dy → ⊥))
  column-or_not dx = each_or_not placement.grid.rows (AllowsAt dx) (λ dy. allows-or_not (cell_in placement.grid dx dy) (cell_at (position_at deltas m) (number_under deltas.shape placement dx dy)))

  abbrev ColumnAllows : ℕ → Type 0
  ColumnAllows dx = (dy : ℕ) → dy < placement.grid.rows → AllowsAt dx dy

  holds-or_not : (Holds deltas.shape (position_at deltas m) placement → ⊥) → (dx : ℕ) × (dy : ℕ) × (dx < placement.grid.cols) × (dy < placement.grid.rows) × (AllowsAt dx dy → ⊥)
  holds-or_not not =
      elim (each_or_not placement.grid.cols ColumnAllows (λ dx. elim (column-or_not dx) [ inl all ↦ inl all | inr some ↦ inr (λ h. some.2 (h some.0 some.1)) ])) [
        | inl all ↦ absurd (not (λ dx dy in_cols in_rows. all dx in_cols dy in_rows))
        | inr column ↦ elim (column-or_not column.0) [
          | inl all ↦ absurd (column.2 all)
          | inr some ↦ (column.0, some.0, column.1, some.1, some.2)
        ]
      ]

no-wildcard : (c : PatternCell) (s : Cell) → (Allows c s → ⊥) → c ≢ cell.Any
no-wildcard c s not any = not (subst (λ (d : PatternCell). Allows d s) (sym any) tt)

-- ---- the node of an occurrence
module _ (deltas : Deltas) (placements : List Placement) (are : AreDeltas deltas) (o : Occurrence) (is : Occurs deltas placements o) where
  abbrev placed : Placement
  placed = placement_at placements o.placement

  at-root : MayHaveParent (parent_of deltas) o.node None → IsNodeCandidate (positions_of deltas) placements o.node
  at-root root = inl (root, omega (arith, is.node_there, length-map-range_with_len (position_at deltas) 0 (node_count deltas)))

  behind : (m : ℕ) → m < o.node → parent_of deltas o.node ≡ Some m → (Holds deltas.shape (position_at deltas m) placed → ⊥) → IsNodeCandidate (positions_of deltas) placements o.node
  behind m before up not =
      let (dx, dy, in_cols, in_rows, unmet) = holds-or_not deltas placed m not in
      let p = number_under deltas.shape placed dx dy in
      let s = cell_at (position_at deltas o.node) p in
      let allowed = is.holds_there dx dy in_cols in_rows in
      let other : cell_at (position_at deltas m) p ≢ s = λ e. unmet (subst (Allows (cell_in placed.grid dx dy)) (sym e) allowed) in
      let above : m < node_count deltas = omega (arith, before, is.node_there) in
      let another : HadAnother (positions_of deltas) p s (parent_in (positions_of deltas) o.node) =
      subst (HadAnother (positions_of deltas) p s) (sym (parent_seen-at deltas o.node is.node_there ∙ up)) (λ e. other (sym (cell_seen-at deltas p m above) ∙ e)) in
      let there = (nodes-told (positions_of deltas) p s o.node).1 (omega (arith, is.node_there, length-map-range_with_len (position_at deltas) 0 (node_count deltas)), cell_seen-at deltas p o.node is.node_there, another) in
      inr (p, s, (o.placement, is.placement_there, (dx, dy, in_cols, in_rows, ((no-wildcard (cell_in placed.grid dx dy) (cell_at (position_at deltas m) p) unmet, allowed), refl))), there)

  by_parent : (up : Option ℕ) → parent_of deltas o.node ≡ up → MayHaveParent (parent_of deltas) o.node up → IfSome up (λ m. ¬ Holds deltas.shape (position_at deltas m) placed) → IsNodeCandidate (positions_of deltas) placements o.node
  by_parent None e may not = at-root may
  by_parent (Some m) e may not = behind m may.0 e not

  pub occurs-candidate : IsNodeCandidate (positions_of deltas) placements o.node
  occurs-candidate = by_parent (parent_of deltas o.node) refl (are.parents.each o.node is.node_there) is.not_before
