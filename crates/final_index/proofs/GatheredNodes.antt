-- Sets that have the points with their cells at the first nodes.
use Rattle.std.proofs.Common.{◌≡◌, ◌≢◌, ℕ, ◌+◌, ◌<◌, ◌⊎◌, List, [], length, All, Option, None, Some, refl, sym, ◌∙◌, ap, subst, arith, inl, inr}
use Rattle.std.proofs.lemmas.Bool.{cases_lt}
use Rattle.std.proofs.lemmas.List.{get_or-replicate}
use Rattle.std.proofs.lemmas.List.Elements.{All-weaker}
use Rattle.std.specs.Prelude.{Contains}
use Rattle.node_paths.specs.Parents.{MayHaveParent}
use Rattle.kb_geometry.specs.declared.stone.Cell.{Cell}
use Rattle.kb_geometry.specs.declared.stone.Cell.TheVariants as cell
use Rattle.kb_geometry.specs.declared.stone.Change.{Change}
use Rattle.kb_geometry.specs.declared.shape.TheConstants.{MAX_POINTS}
use Rattle.kb_geometry.specs.Board.{point_count}
use Rattle.kb_geometry.specs.Capture.{Position, cell_at}
use Rattle.kb_geometry.proofs.Shapes.{point_count-le-most}
use Rattle.capture_board.specs.Changes.{AreChangesOf, with_changes}
use Rattle.capture_board.specs.Deltas.{Deltas, AreDeltas, changes_of, node_count, parent_of, position_at, position_where}
use Rattle.capture_board.proofs.DeltaPaths.{length-position_where, position_at-step}
use Rattle.capture_board.proofs.NetChanges.{AreChangesOf-apart, at_change, changed_or_not, with_changes-new, with_changes-unchanged}
use Rattle.final_index.specs.declared.ever_sets.EverSets.{EverSets}
use Rattle.final_index.specs.Ever.{set_of}
use Rattle.final_index.specs.Gathering.{AreAdded, AreGathered, AreUntouched, MakesCell}

none_there : (ns : List ℕ) → ns ≡ [] → (p : ℕ) → Contains ns p → ⊥
none_there ns e p there = omega (arith, there.1, ap length e)

-- ---- a point after changes

module _ (before : Position) (changes : List Change) (are : AreChangesOf before changes) (p : ℕ) (stone : Cell) where
  -- what a change makes it stands there
  cell-made : MakesCell changes p stone → cell_at (with_changes before changes) p ≡ stone
  cell-made m =
      let new = at_change (λ (c : Change). cell_at (with_changes before changes) c.point ≡ c.new) changes (with_changes-new before changes are.on_board (AreChangesOf-apart before changes are)) m.0 m.1 m.2 m.3 in
      ap (cell_at (with_changes before changes)) (sym m.4.0) ∙ new ∙ m.4.1

  made-on_board : MakesCell changes p stone → p < length before
  made-on_board m = let within = at_change (λ (c : Change). c.point < length before) changes are.on_board m.0 m.1 m.2 m.3 in omega (arith, m.4.0)

  -- what stands there was made by a change, or from before
  cell-cases : cell_at (with_changes before changes) p ≡ stone → MakesCell changes p stone ⊎ (All (λ (c : Change). c.point ≢ p) changes × (cell_at before p ≡ stone))
  cell-cases e =
      elim (changed_or_not p changes) [
        | inl m ↦
            let new = at_change (λ (c : Change). cell_at (with_changes before changes) c.point ≡ c.new) changes (with_changes-new before changes are.on_board (AreChangesOf-apart before changes are)) m.0 m.1 m.2 m.3 in
            inl (m.0, m.1, m.2, m.3, (m.4, sym new ∙ ap (cell_at (with_changes before changes)) m.4 ∙ e))
        | inr none ↦ inr (none, sym (with_changes-unchanged before changes p none) ∙ e)
      ]

-- ---- the points at a node

module _ (deltas : Deltas) (are : AreDeltas deltas) where
  abbrev above : ℕ → Position
  above n = position_where deltas (parent_of deltas n)

  -- a node's changes stay on the board
  pub on_board : (n : ℕ) → n < node_count deltas → (changes : List Change) → changes ≡ changes_of deltas n → All (λ (c : Change). c.point < point_count deltas.shape) changes
  on_board n lt changes is = All-weaker (λ (c : Change). c.point < length (above n)) (λ (c : Change). c.point < point_count deltas.shape) (λ c h. omega (arith, length-position_where deltas (parent_of deltas n))) changes (rw is (are.changes n lt).on_board)

  pub within_most : (n : ℕ) → n < node_count deltas → (changes : List Change) → changes ≡ changes_of deltas n → All (λ (c : Change). c.point < MAX_POINTS) changes
  within_most n lt changes is = All-weaker (λ (c : Change). c.point < point_count deltas.shape) (λ (c : Change). c.point < MAX_POINTS) (λ c h. omega (arith, point_count-le-most deltas.shape)) changes (on_board n lt changes is)

  module _ (n : ℕ) (lt : n < node_count deltas) (p : ℕ) (stone : Cell) where
    pub node-made : MakesCell (changes_of deltas n) p stone → (p < point_count deltas.shape) × (cell_at (position_at deltas n) p ≡ stone)
    node-made m = (
      omega (arith, made-on_board (above n) (changes_of deltas n) (are.changes n lt) p stone m, length-position_where deltas (parent_of deltas n)),
      ap (λ q. cell_at q p) (position_at-step deltas are n) ∙ cell-made (above n) (changes_of deltas n) (are.changes n lt) p stone m,
    )

    pub node-cases : cell_at (position_at deltas n) p ≡ stone → MakesCell (changes_of deltas n) p stone ⊎ (All (λ (c : Change). c.point ≢ p) (changes_of deltas n) × (cell_at (above n) p ≡ stone))
    node-cases e = cell-cases (above n) (changes_of deltas n) (are.changes n lt) p stone (sym (ap (λ q. cell_at q p) (position_at-step deltas are n)) ∙ e)

  -- the first node has no parent
  pub root-cell : (o : Option ℕ) → MayHaveParent (parent_of deltas) 0 o → (p : ℕ) → p < point_count deltas.shape → cell_at (position_where deltas o) p ≡ cell.Empty
  root-cell None may p h = get_or-replicate (point_count deltas.shape) p cell.Empty cell.Empty h
  root-cell (Some m) may p h = absurd (omega (arith, may.0))

  -- what stands at the parent of another node stood at an earlier node
  pub parent-cell : (n : ℕ) (o : Option ℕ) → 0 < n → MayHaveParent (parent_of deltas) n o → (p : ℕ) (stone : Cell) → cell_at (position_where deltas o) p ≡ stone → (m : ℕ) × (m < n) × (cell_at (position_at deltas m) p ≡ stone)
  parent-cell n None pos may p stone e = absurd (omega (arith, may))
  parent-cell n (Some m) pos may p stone e = (m, may.0, e)

  -- ---- the sets at the first nodes

  module _ (sets : EverSets) (no_black : sets.black ≡ []) (no_white : sets.white ≡ []) (no_empty : sets.empty ≡ []) where
    no_set : (stone : Cell) → set_of sets stone ≡ []
    no_set cell.Empty = no_empty
    no_set cell.Black = no_black
    no_set cell.White = no_white

    pub AreGathered-none : AreGathered deltas 0 sets
    AreGathered-none stone p = (λ h. absurd (none_there (set_of sets stone) (no_set stone) p h), λ h. absurd (omega (arith, h.1.1)))

  module _ (sets : EverSets) (first : 0 < node_count deltas) (untouched : AreUntouched (point_count deltas.shape) (changes_of deltas 0) sets.empty) (no_black : sets.black ≡ []) (no_white : sets.white ≡ []) where
    before_root : (stone : Cell) (p : ℕ) → Contains (set_of sets stone) p → (p < point_count deltas.shape) × All (λ (c : Change). c.point ≢ p) (changes_of deltas 0) × (cell.Empty ≡ stone)
    before_root cell.Empty p h = let there = (untouched p).0 h in (there.0, there.1, refl)
    before_root cell.Black p h = absurd (none_there sets.black no_black p h)
    before_root cell.White p h = absurd (none_there sets.white no_white p h)

    root-kept : (p : ℕ) → p < point_count deltas.shape → All (λ (c : Change). c.point ≢ p) (changes_of deltas 0) → cell_at (position_at deltas 0) p ≡ cell.Empty
    root-kept p h none =
        ap (λ q. cell_at q p) (position_at-step deltas are 0)
        ∙ with_changes-unchanged (above 0) (changes_of deltas 0) p none
        ∙ root-cell (parent_of deltas 0) (are.parents.each 0 first) p h

    pub AreGathered-root : (after : EverSets) → AreAdded sets (changes_of deltas 0) after → AreGathered deltas 1 after
    AreGathered-root after added stone p = (
      λ h. elim ((added stone p).0 h) [
        | inl there ↦
            let was = before_root stone p there in
            (was.0, (0, omega arith, root-kept p was.0 was.1 ∙ was.2))
        | inr m ↦ let made = node-made 0 first p stone m in (made.0, (0, omega arith, made.1))
      ],
      λ h.
          let at : h.1.0 ≡ 0 = omega (arith, h.1.1) in
          elim (node-cases 0 first p stone (ap (λ n. cell_at (position_at deltas n) p) (sym at) ∙ h.1.2)) [
            | inl m ↦ (added stone p).1 (inr m)
            | inr kept ↦
                let is : cell.Empty ≡ stone = sym (root-cell (parent_of deltas 0) (are.parents.each 0 first) p h.0) ∙ kept.1 in
                (added stone p).1 (inl (subst (λ (c : Cell). Contains (set_of sets c) p) is ((untouched p).1 (h.0, kept.0))))
          ],
    )

  module _ (n : ℕ) (pos : 0 < n) (lt : n < node_count deltas) (sets after : EverSets) (so_far : AreGathered deltas n sets) (added : AreAdded sets (changes_of deltas n) after) where
    stood : (stone : Cell) (p m : ℕ) → p < point_count deltas.shape → m < n + 1 → cell_at (position_at deltas m) p ≡ stone → Contains (set_of after stone) p
    stood stone p m h below e =
        elim (cases_lt m n) [
          | inl earlier ↦ (added stone p).1 (inl ((so_far stone p).1 (h, (m, earlier, e))))
          | inr last ↦
              let at : m ≡ n = omega arith in
              elim (node-cases n lt p stone (ap (λ k. cell_at (position_at deltas k) p) (sym at) ∙ e)) [
                | inl made ↦ (added stone p).1 (inr made)
                | inr kept ↦ (added stone p).1 (inl ((so_far stone p).1 (h, parent-cell n (parent_of deltas n) pos (are.parents.each n lt) p stone kept.1)))
              ]
        ]

    pub AreGathered-more : AreGathered deltas (n + 1) after
    AreGathered-more stone p = (
      λ h. elim ((added stone p).0 h) [
        | inl there ↦ let was = (so_far stone p).0 there in (was.0, (was.1.0, omega (arith, was.1.1), was.1.2))
        | inr m ↦ let made = node-made n lt p stone m in (made.0, (n, omega arith, made.1))
      ],
      λ h. stood stone p h.1.0 h.0 h.1.1 h.1.2,
    )
