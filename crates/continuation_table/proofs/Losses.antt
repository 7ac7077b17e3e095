-- Whether a placement still holds after changes.
use Rattle.std.proofs.Common.{◌≡◌, ℕ, ◌+◌, ◌-◌, ◌<◌, ◌↔◌, inl, inr, List, get_or, sym, ap, subst, ◌∙◌, arith}
use Rattle.std.specs.Prelude.{All}
use Rattle.kb_geometry.specs.declared.shape.Shape.{Shape}
use Rattle.kb_geometry.specs.declared.shape.Point.{Point}
use Rattle.kb_geometry.specs.declared.stone.Cell.{Cell}
use Rattle.kb_geometry.specs.declared.stone.Change.{Change}
use Rattle.kb_geometry.specs.Board.{IsOnBoard, number_of}
use Rattle.kb_geometry.specs.Capture.{Position, cell_at}
use Rattle.kb_geometry.specs.Symmetry.{point_of}
use Rattle.kb_geometry.proofs.Symmetries.{same_point}
use Rattle.capture_board.specs.Changes.{AreChangesOf, with_changes}
use Rattle.capture_board.proofs.NetChanges.{AreChangesOf-apart, at_change, changed_or_not, with_changes-new, with_changes-unchanged}
use Rattle.pattern_images.specs.declared.cell.PatternCell.{PatternCell}
use Rattle.pattern_images.specs.Grid.{cell_in}
use Rattle.pattern_images.specs.Holds.{Allows, Holds, number_under}
use Rattle.pattern_images.specs.ImageList.{IsPlacedOn}
use Rattle.pattern_images.specs.Placements.{Covers, Placement}
use Rattle.continuation_table.specs.Descending.{AllowsAt, AllowsChange, AreAllowed}

-- an allowed change, as the code tells its point
pub allows-point : (shown shape : Shape) (placement : Placement) → shown ≡ shape →
    (number : ℕ) (new : Cell) (point : Point) →
    ((p : Point) → IsOnBoard shown p → number_of shown p ≡ number → p ≡ point) →
    AllowsAt placement point new →
    (p : Point) → IsOnBoard shape p → number_of shape p ≡ number → AllowsAt placement p new
allows-point shown shape placement same number new point only allowed p on here covers =
    let is : p ≡ point = only p (subst (λ (s : Shape). IsOnBoard s p) (sym same) on)
    (subst (λ (s : Shape). number_of s p ≡ number) (sym same) here) in
    subst (λ (q : Point). AllowsAt placement q new) (sym is) allowed covers

module _ (shape : Shape) (placement : Placement) (placed : IsPlacedOn shape placement)
    (before : Position) (changes : List Change) (are : AreChangesOf before changes) where
  abbrev after : Position
  after = with_changes before changes

  -- a change leaves its new cell
  new_cells : All (λ (c : Change). cell_at after c.point ≡ c.new) changes
  new_cells = with_changes-new before changes are.on_board (AreChangesOf-apart before changes are)

  -- each point has its new cell, which is allowed, or the cell that it had
  kept : Holds shape before placement → AreAllowed shape placement changes → Holds shape after placement
  kept holds allowed dx dy in_cols in_rows =
      let p = point_of (placement.x + dx) (placement.y + dy) in
      let on : IsOnBoard shape p = (omega (arith, placed.columns), omega (arith, placed.rows)) in
      let column : p.x - placement.x ≡ dx = omega arith in
      let row : p.y - placement.y ≡ dy = omega arith in
      let same : cell_in placement.grid (p.x - placement.x) (p.y - placement.y)
      ≡ cell_in placement.grid dx dy =
      ap (λ (a : ℕ). cell_in placement.grid a (p.y - placement.y)) column
      ∙ ap (cell_in placement.grid dx) row in
      let covers : Covers placement p = (omega arith, omega arith, omega arith, omega arith) in
      elim (changed_or_not (number_of shape p) changes) [
        | inl (k, c, lt, e, here) ↦
            let is_allowed : AllowsAt placement p c.new =
            at_change (AllowsChange shape placement) changes allowed k c lt e p on (sym here) in
            let new : cell_at after c.point ≡ c.new =
            at_change (λ (d : Change). cell_at after d.point ≡ d.new) changes new_cells k c lt e in
            let own : Allows (cell_in placement.grid dx dy) c.new =
            subst (λ (a : PatternCell). Allows a c.new) same (is_allowed covers) in
            subst (Allows (cell_in placement.grid dx dy)) (sym new ∙ ap (cell_at after) here) own
        | inr none ↦
            subst (Allows (cell_in placement.grid dx dy))
            (sym (with_changes-unchanged before changes (number_of shape p) none))
            (holds dx dy in_cols in_rows)
      ]

  -- where the placement holds afterwards it allows the new cells
  allowed-after : Holds shape after placement → AreAllowed shape placement changes
  allowed-after still k d lt p on here covers =
      let c = get_or changes k d in
      let in_cols : p.x - placement.x < placement.grid.cols = omega (arith, covers) in
      let in_rows : p.y - placement.y < placement.grid.rows = omega (arith, covers) in
      let under : point_of (placement.x + (p.x - placement.x)) (placement.y + (p.y - placement.y)) ≡ p =
      same_point _ p (omega (arith, covers)) (omega (arith, covers)) in
      let number : number_under shape placement (p.x - placement.x) (p.y - placement.y) ≡ c.point =
      ap (number_of shape) under ∙ here in
      let own = cell_in placement.grid (p.x - placement.x) (p.y - placement.y) in
      let new : Allows own (cell_at after c.point) =
      subst (λ (n : ℕ). Allows own (cell_at after n)) number
      (still (p.x - placement.x) (p.y - placement.y) in_cols in_rows) in
      subst (Allows own) (new_cells k d lt) new

  -- a placement that held still does just where it allows the new cells
  pub holds-allowed : Holds shape before placement →
      AreAllowed shape placement changes ↔ Holds shape after placement
  holds-allowed holds = (kept holds, allowed-after)
