-- Whether a game is kept for a query can be told: all that is asked is a matter of numbers below others.
use Rattle.std.proofs.Common.{◌≡◌, ◌≤◌, ◌<◌, inl, inr, ℕ, List, length, sym, ◌∙◌, subst, arith}
use Rattle.std.proofs.lemmas.Bool.{cases_Bool, cases_eq, cases_lt, false≢true}
use Rattle.std.proofs.lemmas.List.{get_or_default}
use Rattle.kb_geometry.specs.declared.stone.Cell.{Cell}
use Rattle.kb_geometry.specs.Board.{cols_of, rows_of}
use Rattle.kb_geometry.specs.Capture.{cell_at}
use Rattle.game_tree.specs.Tree.{IsTree, Tree}
use Rattle.capture_board.specs.Deltas.{Deltas, node_count, position_at}
use Rattle.node_position.specs.Games.{AreNodeChanges}
use Rattle.node_position.specs.Positions.{AreDeltasOf}
use Rattle.search_engine.proofs.TreeChanges.{has_changes}
use Rattle.node_position.proofs.OneChange.{changes-unique}
use Rattle.node_position.proofs.OnePosition.{positions-unique}
use Rattle.pattern_images.specs.declared.cell.PatternCell.{PatternCell}
use Rattle.pattern_images.specs.declared.cell.PatternCell.TheVariants as cell
use Rattle.pattern_images.specs.declared.query.Query.{Query}
use Rattle.pattern_images.specs.Grid.{cell_in}
use Rattle.pattern_images.specs.Holds.{Allows, number_under}
use Rattle.pattern_images.specs.ImageList.{no_placement, placement_at}
use Rattle.pattern_images.specs.Placements.{Placement}
use Rattle.pattern_images.proofs.Existence.{some_list}
use Rattle.pattern_images.proofs.OneList.{one_list}
use Rattle.pattern_images.proofs.Tellings.{Told, least_below, told_as, told_below, told_both, told_le}
use Rattle.pattern_occurrences.specs.Occurrences.{allows}
use Rattle.pattern_occurrences.proofs.HoldsLaw.{allows-decides}
use Rattle.corner_index.specs.Corners.{HasCorners, point_in_frame}
use Rattle.ready_images.specs.Corners.{CoversCorner, IsExact, LiesOn}
use Rattle.candidate_sieve.specs.Kept.{HasCornerOf, IsKept, IsKeptBy, WasAllowed, WereAllowed}
use Rattle.search_engine.specs.KeptGames.{IsKeptGame}

-- ---- what can be told

told_not : (P : Type 0) → Told P → Told (P → ⊥)
told_not P (inl p) = inr (λ never. never p)
told_not P (inr never) = inl never

told_then : (P Q : Type 0) → Told P → Told Q → Told (P → Q)
told_then P Q (inr never) told = inl (λ p. absurd (never p))
told_then P Q (inl p) (inl q) = inl (λ _. q)
told_then P Q (inl p) (inr never) = inr (λ f. never (f p))

-- a fact of each number below another one
told_each : (Q : ℕ → Type 0) → ((k : ℕ) → Told (Q k)) → (n : ℕ) → Told ((k : ℕ) → k < n → Q k)
told_each Q told n = elim (least_below (λ k. Q k → ⊥) (λ k. told_not (Q k) (told k)) n) [
  | inl found ↦ inr (λ all. found.2 (all found.0 found.1))
  | inr none ↦ inl (λ k lt. elim (told k) [ inl q ↦ q | inr never ↦ absurd (none k lt never) ])
]

told_lt : (m n : ℕ) → Told (m < n)
told_lt m n = elim (cases_lt m n) [ inl lt ↦ inl lt | inr le ↦ inr (λ lt. omega arith) ]

told_eq : (m n : ℕ) → Told (m ≡ n)
told_eq m n = elim (cases_eq m n) [ inl same ↦ inl same | inr other ↦ inr (λ same. omega arith) ]

-- ---- one cell of a pattern

told_allows : (c : PatternCell) (s : Cell) → Told (Allows c s)
told_allows c s = elim (cases_Bool (allows c s)) [
  | inl t ↦ inl ((allows-decides c s).0 t)
  | inr f ↦ inr (λ h. false≢true (sym f ∙ (allows-decides c s).1 h))
]

told_exact : (c : PatternCell) → Told (IsExact c)
told_exact cell.Empty = inl tt
told_exact cell.Black = inl tt
told_exact cell.White = inl tt
told_exact cell.NotWhite = inr (λ no. no)
told_exact cell.NotBlack = inr (λ no. no)
told_exact cell.Any = inr (λ no. no)

-- ---- a placement in a game

module _ (changes : Deltas) (placement : Placement) where
  abbrev here : ℕ → ℕ → PatternCell
  here dx dy = cell_in placement.grid dx dy

  abbrev under : ℕ → ℕ → ℕ
  under dx dy = number_under changes.shape placement dx dy

  told_was : (dx dy : ℕ) → Told (WasAllowed changes (under dx dy) (here dx dy))
  told_was dx dy = told_below (λ n. Allows (here dx dy) (cell_at (position_at changes n) (under dx dy))) (λ n. told_allows (here dx dy) (cell_at (position_at changes n) (under dx dy))) (node_count changes)

  told_cells : Told (WereAllowed changes placement)
  told_cells =
      told_as ((dx : ℕ) → dx < placement.grid.cols → (dy : ℕ) → dy < placement.grid.rows → WasAllowed changes (under dx dy) (here dx dy)) (WereAllowed changes placement)
      (λ all dx dy column row. all dx column dy row) (λ were dx column dy row. were dx dy column row)
      (told_each (λ dx. (dy : ℕ) → dy < placement.grid.rows → WasAllowed changes (under dx dy) (here dx dy)) (λ dx. told_each (λ dy. WasAllowed changes (under dx dy) (here dx dy)) (told_was dx) placement.grid.rows) placement.grid.cols)

  module _ (corner : ℕ) where
    abbrev Lies : ℕ → ℕ → ℕ → ℕ → Type 0
    Lies column row dx dy = LiesOn changes.shape placement corner column row dx dy

    told_lies : (column row dx dy : ℕ) → Told (Lies column row dx dy)
    told_lies column row dx dy =
        told_as ((dx < placement.grid.cols) × ((dy < placement.grid.rows) × (under dx dy ≡ point_in_frame corner changes.shape column row))) (Lies column row dx dy)
        (λ all. record { in_cols = all.0; in_rows = all.1.0; on_point = all.1.1 }) (λ lies. (lies.in_cols, (lies.in_rows, lies.on_point)))
        (told_both (dx < placement.grid.cols) ((dy < placement.grid.rows) × (under dx dy ≡ point_in_frame corner changes.shape column row)) (told_lt dx placement.grid.cols)
        (told_both (dy < placement.grid.rows) (under dx dy ≡ point_in_frame corner changes.shape column row) (told_lt dy placement.grid.rows) (told_eq (under dx dy) (point_in_frame corner changes.shape column row))))

    abbrev Exact : ℕ → ℕ → ℕ → ℕ → Type 0
    Exact column row dx dy = Lies column row dx dy × IsExact (here dx dy)

    abbrev Found : ℕ → ℕ → Type 0
    Found column row = (dx : ℕ) × (dx < placement.grid.cols) × ((dy : ℕ) × (dy < placement.grid.rows) × Exact column row dx dy)

    told_found : (column row : ℕ) → Told (Found column row)
    told_found column row =
        told_below (λ dx. (dy : ℕ) × (dy < placement.grid.rows) × Exact column row dx dy)
        (λ dx. told_below (λ dy. Exact column row dx dy) (λ dy. told_both (Lies column row dx dy) (IsExact (here dx dy)) (told_lies column row dx dy) (told_exact (here dx dy))) placement.grid.rows)
        placement.grid.cols

    told_covers : Told (CoversCorner changes.shape placement corner)
    told_covers =
        told_as ((column : ℕ) → column < 6 → (row : ℕ) → row < 6 → Found column row) (CoversCorner changes.shape placement corner)
        (λ all column row in_columns in_rows. let f = all column in_columns row in_rows in (f.0, f.2.0, f.2.2.0, f.2.2.1))
        (λ covers column in_columns row in_rows. let f = covers column row in_columns in_rows in (f.0, f.2.in_cols, (f.1, f.2.in_rows, (f.2, f.3))))
        (told_each (λ column. (row : ℕ) → row < 6 → Found column row) (λ column. told_each (λ row. Found column row) (told_found column) 6) 6)

    module _ (n : ℕ) where
      abbrev Fits : ℕ → ℕ → ℕ → ℕ → Type 0
      Fits column row dx dy = Lies column row dx dy → Allows (here dx dy) (cell_at (position_at changes n) (under dx dy))

      told_fits : (column row dx dy : ℕ) → Told (Fits column row dx dy)
      told_fits column row dx dy = told_then (Lies column row dx dy) (Allows (here dx dy) (cell_at (position_at changes n) (under dx dy))) (told_lies column row dx dy) (told_allows (here dx dy) (cell_at (position_at changes n) (under dx dy)))

      abbrev FitAll : ℕ → ℕ → Type 0
      FitAll column row = (dx : ℕ) → dx < placement.grid.cols → (dy : ℕ) → dy < placement.grid.rows → Fits column row dx dy

      told_all : (column row : ℕ) → Told (FitAll column row)
      told_all column row =
          told_each (λ dx. (dy : ℕ) → dy < placement.grid.rows → Fits column row dx dy) (λ dx. told_each (λ dy. Fits column row dx dy) (told_fits column row dx) placement.grid.rows) placement.grid.cols

      told_corner : Told (HasCornerOf changes placement corner n)
      told_corner =
          told_as ((column : ℕ) → column < 6 → (row : ℕ) → row < 6 → FitAll column row) (HasCornerOf changes placement corner n)
          (λ all column row dx dy in_columns in_rows lies. all column in_columns row in_rows dx lies.in_cols dy lies.in_rows lies)
          (λ has column in_columns row in_rows dx dx_in dy dy_in lies. has column row dx dy in_columns in_rows lies)
          (told_each (λ column. (row : ℕ) → row < 6 → FitAll column row) (λ column. told_each (λ row. FitAll column row) (told_all column) 6) 6)

    abbrev Stood : Type 0
    Stood = (n : ℕ) × (n < node_count changes) × HasCornerOf changes placement corner n

    told_stood : Told (HasCorners changes.shape → CoversCorner changes.shape placement corner → Stood)
    told_stood =
        told_then (HasCorners changes.shape) (CoversCorner changes.shape placement corner → Stood)
        (told_both (6 ≤ cols_of changes.shape) (6 ≤ rows_of changes.shape) (told_le 6 (cols_of changes.shape)) (told_le 6 (rows_of changes.shape)))
        (told_then (CoversCorner changes.shape placement corner) Stood told_covers (told_below (HasCornerOf changes placement corner) told_corner (node_count changes)))

  told_kept_by : Told (IsKeptBy changes placement)
  told_kept_by =
      let Corners : Type 0 = (corner : ℕ) → corner < 4 → HasCorners changes.shape → CoversCorner changes.shape placement corner → (n : ℕ) × (n < node_count changes) × HasCornerOf changes placement corner n in
      told_as (WereAllowed changes placement × Corners) (IsKeptBy changes placement)
      (λ both. record { cells = both.0; corners = both.1 }) (λ is. (is.cells, is.corners))
      (told_both (WereAllowed changes placement) Corners told_cells
      (told_each (λ corner. HasCorners changes.shape → CoversCorner changes.shape placement corner → (n : ℕ) × (n < node_count changes) × HasCornerOf changes placement corner n) told_stood 4))

-- ---- a game

told_kept : (changes : Deltas) (placements : List Placement) → Told (IsKept changes placements)
told_kept changes placements =
    told_as ((k : ℕ) × (k < length placements) × IsKeptBy changes (placement_at placements k)) (IsKept changes placements)
    (λ found. (found.0, placement_at placements found.0, found.1, get_or_default placements found.0 (placement_at placements found.0) no_placement found.1, found.2))
    (λ any. (any.0, any.2, subst (IsKeptBy changes) (sym (get_or_default placements any.0 no_placement any.1 any.2 ∙ any.3)) any.4))
    (told_below (λ k. IsKeptBy changes (placement_at placements k)) (λ k. told_kept_by changes (placement_at placements k)) (length placements))

-- a tree has one list of changes
pub same_changes : (tree : Tree) → IsTree tree → (one other : Deltas) → AreNodeChanges tree one → AreNodeChanges tree other → one ≡ other
same_changes tree is_tree one other are too =
    let positions = positions-unique tree are.positions too.positions is_tree are.are_positions too.are_positions in
    changes-unique tree too.positions one other is_tree are.net too.net (subst (λ ps. AreDeltasOf tree ps one) positions are.lead) too.lead

pub told_kept_game : (query : Query) (tree : Tree) → IsTree tree → Told (IsKeptGame query tree)
told_kept_game query tree is_tree =
    let (changes, of) = has_changes tree is_tree in
    let placements = some_list query tree.shape in
    told_as (IsKept changes placements.0) (IsKeptGame query tree)
    (λ kept. record { changes = changes; are_changes = of; placements = placements.0; are_placements = placements.1; kept = kept })
    (λ is.
    subst (λ ps. IsKept changes ps) (one_list query tree.shape is.placements placements.0 is.are_placements placements.1)
    (subst (λ (c : Deltas). IsKept c is.placements) (same_changes tree is_tree is.changes changes is.are_changes of) is.kept))
    (told_kept changes placements.0)
