-- Whether a placement has a continuation at a node can be told: the way down goes on as long as there are nodes, and at
-- each of them it can be told whether it has a move in the rectangle and whether the placement holds.
use Rattle.std.proofs.Common.{◌≡◌, ℕ, zero, suc, ◌+◌, ◌-◌, ◌<◌, ◌≤◌, ◌↔◌, ◌⊎◌, inl, inr, Bool, true, false, IsTrue, Option, Some, None, refl, sym, ap, subst, ◌∙◌, arith}
use Rattle.std.proofs.lemmas.Bool.{cases_eq, cases_lt}
use Rattle.std.proofs.lemmas.Option.{same_Some}
use Rattle.kb_geometry.specs.declared.shape.Shape.{Shape}
use Rattle.kb_geometry.specs.declared.shape.Point.{Point}
use Rattle.kb_geometry.specs.declared.stone.Cell.{Cell}
use Rattle.kb_geometry.specs.declared.stone.Cell.TheVariants as stone
use Rattle.kb_geometry.specs.declared.stone.Colour.{Colour}
use Rattle.kb_geometry.specs.Capture.{Position, cell_at}
use Rattle.kb_geometry.specs.Symmetry.{inverse_number, moved, point_of, symmetry_of}
use Rattle.game_tree.specs.declared.node.Move.{Move}
use Rattle.game_tree.specs.Tree.{IsTree, Tree, first_child_of, node_at, node_count}
use Rattle.game_tree.proofs.Trees.{IsGrown-tree, first_child-found, parent-in_range}
use Rattle.capture_board.specs.Deltas.{Deltas, position_at}
use Rattle.pattern_images.specs.declared.cell.PatternCell.{PatternCell}
use Rattle.pattern_images.specs.declared.cell.PatternCell.TheVariants as cell
use Rattle.pattern_images.specs.declared.hit.Next.{Next}
use Rattle.pattern_images.specs.Grid.{cell_in}
use Rattle.pattern_images.specs.Holds.{Allows, Holds, number_under}
use Rattle.pattern_images.specs.ImageList.{IsPlacedOn}
use Rattle.pattern_images.specs.Placements.{Covers, Placement}
use Rattle.pattern_images.proofs.Tellings.{Told, told_as, told_le}
use Rattle.continuation_table.specs.Continuation.{HasMoveInside, IsContinuation, IsMoveInside, IsTurnedBack, own_colour}
use Rattle.continuation_table.specs.Descending.{IsWayDown}
use Rattle.continuation_table.proofs.Descents.{IsContinuation-found, IsWayDown-more, IsWayDown-start, no_continuation-end, no_continuation-lost}

-- ---- whether a placement holds

told_stone : (a b : Cell) → Told (a ≡ b)
told_stone stone.Empty stone.Empty = inl refl
told_stone stone.Empty stone.Black = inr (λ e. cc)
told_stone stone.Empty stone.White = inr (λ e. cc)
told_stone stone.Black stone.Empty = inr (λ e. cc)
told_stone stone.Black stone.Black = inl refl
told_stone stone.Black stone.White = inr (λ e. cc)
told_stone stone.White stone.Empty = inr (λ e. cc)
told_stone stone.White stone.Black = inr (λ e. cc)
told_stone stone.White stone.White = inl refl

told_other : (P : Type 0) → Told P → Told (P → ⊥)
told_other P (inl p) = inr (λ never. never p)
told_other P (inr never) = inl never

told_allows : (asked : PatternCell) (on_board : Cell) → Told (Allows asked on_board)
told_allows cell.Empty on_board = told_stone on_board stone.Empty
told_allows cell.Black on_board = told_stone on_board stone.Black
told_allows cell.White on_board = told_stone on_board stone.White
told_allows cell.NotWhite on_board = told_other (on_board ≡ stone.White) (told_stone on_board stone.White)
told_allows cell.NotBlack on_board = told_other (on_board ≡ stone.Black) (told_stone on_board stone.Black)
told_allows cell.Any on_board = inl tt

-- a fact of each number below another one
told_each : (Q : ℕ → Type 0) → ((k : ℕ) → Told (Q k)) → (n : ℕ) → Told ((k : ℕ) → k < n → Q k)
told_each Q told zero = inl (λ k lt. absurd (omega arith))
told_each Q told (suc n) = elim (told_each Q told n) [
  | inr never ↦ inr (λ h. never (λ k lt. h k (omega arith)))
  | inl all ↦ elim (told n) [
    | inr never ↦ inr (λ h. never (h n (omega arith)))
    | inl here ↦ inl (λ k lt. elim (cases_eq k n) [
      | inl same ↦ subst Q (let back : n ≡ k = omega arith in back) here
      | inr other ↦ all k (omega arith)
    ])
  ]
]

told_holds : (shape : Shape) (position : Position) (placement : Placement) → Told (Holds shape position placement)
told_holds shape position placement =
    let Allowed : ℕ → ℕ → Type 0 = λ dx dy. Allows (cell_in placement.grid dx dy) (cell_at position (number_under shape placement dx dy)) in
    told_as ((dx : ℕ) → dx < placement.grid.cols → (dy : ℕ) → dy < placement.grid.rows → Allowed dx dy)
    (Holds shape position placement)
    (λ h dx dy column row. h dx column dy row) (λ h dx column dy row. h dx dy column row)
    (told_each (λ dx. (dy : ℕ) → dy < placement.grid.rows → Allowed dx dy)
    (λ dx. told_each (Allowed dx) (λ dy. told_allows (cell_in placement.grid dx dy) (cell_at position (number_under shape placement dx dy))) placement.grid.rows)
    placement.grid.cols)

-- ---- whether a node has a move in the rectangle

told_covers : (placement : Placement) (q : Point) → Told (Covers placement q)
told_covers placement q = elim (told_le placement.x q.x) [
  | inr never ↦ inr (λ h. never h.0)
  | inl left ↦ elim (cases_lt q.x (placement.x + placement.grid.cols)) [
    | inr never ↦ inr (λ h. omega (arith, h.1))
    | inl right ↦ elim (told_le placement.y q.y) [
      | inr never ↦ inr (λ h. never h.2)
      | inl top ↦ elim (cases_lt q.y (placement.y + placement.grid.rows)) [
        | inr never ↦ inr (λ h. omega (arith, h.3))
        | inl bottom ↦ inl (left, right, top, bottom)
      ]
    ]
  ]
]

module _ (tree : Tree) (placement : Placement) (m : ℕ) where
  -- a move in the rectangle, with its colour and point
  abbrev FoundMove : Type 0
  FoundMove = (colour : Colour) × (point : Point) × IsMoveInside tree placement m colour point

  told_point : (colour : Colour) (point : Option Point) → (node_at tree m).played ≡ Some (record { colour = colour; point = point }) →
      FoundMove ⊎ (HasMoveInside tree placement m → ⊥)
  told_point colour None played = inr (λ h.
      let points : None ≡ Some h.point = ap (λ (x : Move). x.point) (same_Some _ _ (sym played ∙ h.move.played)) in
      cc)
  told_point colour (Some point) played = elim (told_covers placement point) [
    | inl covers ↦ inl (colour, point, record { played = played; inside = covers })
    | inr outside ↦ inr (λ h.
        let points : Some point ≡ Some h.point = ap (λ (x : Move). x.point) (same_Some _ _ (sym played ∙ h.move.played)) in
        let same : point ≡ h.point = same_Some point h.point points in
        outside (subst (Covers placement) (sym same) h.move.inside))
  ]

  told_played : (played : Option Move) → (node_at tree m).played ≡ played → FoundMove ⊎ (HasMoveInside tree placement m → ⊥)
  told_played None is = inr (λ h. let e = sym is ∙ h.move.played in cc)
  told_played (Some move) is = told_point move.colour move.point is

  told_move : FoundMove ⊎ (HasMoveInside tree placement m → ⊥)
  told_move = told_played (node_at tree m).played refl

-- whether no move and no pass came with one node more
after_played : (now : Bool) (played : Option Move) → (after : Bool) × (IsTrue after ↔ (IsTrue now × (played ≡ None)))
after_played true None = (true, (λ t. (refl, refl), λ h. refl))
after_played true (Some move) = (false, (λ t. absurd cc, λ h. let e : Some move ≡ None = h.1 in absurd cc))
after_played false played = (false, (λ t. absurd cc, λ h. h.0))

-- ---- the way down

module _ (tree : Tree) (is_tree : IsTree tree) (changes : Deltas) (placement : Placement) (placed : IsPlacedOn changes.shape placement) (n : ℕ) where
  -- there is a continuation, or none
  abbrev IsTold : Type 0
  IsTold = ((next : Next) × IsContinuation tree changes placement n next) ⊎ ((next : Next) → IsContinuation tree changes placement n next → ⊥)

  frame : Shape
  frame = record {
    cols = placement.grid.cols;
    rows = placement.grid.rows;
    in_range = (
      (placed.some_column, omega (arith, placed.columns, changes.shape.in_range.0.1)),
      (placed.some_row, omega (arith, placed.rows, changes.shape.in_range.1.1)),
    );
  }

  -- the continuation by a move
  by_move : (here : ℕ) (now : Bool) → IsWayDown tree changes placement n here now → (child : ℕ) → first_child_of tree here ≡ Some child →
      FoundMove tree placement child → (next : Next) × IsContinuation tree changes placement n next
  by_move here now way child e (colour, point, move) =
      let size : Shape = record {
        cols = placement.grid.cols;
        rows = placement.grid.rows;
        in_range = (
          (placed.some_column, omega (arith, placed.columns, changes.shape.in_range.0.1)),
          (placed.some_row, omega (arith, placed.rows, changes.shape.in_range.1.1)),
        );
      } in
      let own : Point = moved (inverse_number (symmetry_of placement.label)) size (point_of (point.x - placement.x) (point.y - placement.y)) in
      let next : Next = record { colour = own_colour placement.label colour; x = own.x; y = own.y; now = now } in
      let back : IsTurnedBack placement point (point_of own.x own.y) = record { size = size; columns = refl; rows = refl; turned = refl } in
      (next, IsContinuation-found tree changes placement n here now way child e colour point move next refl back refl)

  at_child : (here : ℕ) (now : Bool) → IsWayDown tree changes placement n here now →
      (o : Option ℕ) → first_child_of tree here ≡ o →
      ((child : ℕ) (after : Bool) → first_child_of tree here ≡ Some child → IsWayDown tree changes placement n child after → IsTold) →
      IsTold
  at_child here now way None e rest = inr (no_continuation-end tree changes placement n here now way e)
  at_child here now way (Some child) e rest = elim (told_move tree placement child) [
    | inl found ↦ inl (by_move here now way child e found)
    | inr outside ↦ elim (told_holds changes.shape (position_at changes child) placement) [
      | inr lost ↦ inr (no_continuation-lost tree changes placement n here now way child e outside lost)
      | inl holds ↦
          let (after, told) = after_played now (node_at tree child).played in
          rest child after e (IsWayDown-more tree changes placement n here now way child e outside holds after told)
    ]
  ]

  down : (left here : ℕ) (now : Bool) → node_count tree ≤ here + left → IsWayDown tree changes placement n here now → IsTold
  down zero here now last way = at_child here now way (first_child_of tree here) refl (λ child after e on.
      let found = first_child-found tree (IsGrown-tree tree is_tree) here child e in
      absurd (omega (arith, parent-in_range tree (here + 1) here found.1)))
  down (suc left) here now last way = at_child here now way (first_child_of tree here) refl (λ child after e on.
      let found = first_child-found tree (IsGrown-tree tree is_tree) here child e in
      down left child after (omega (arith, found.0)) on)

  pub told_continuation : IsTold
  told_continuation = elim (told_holds changes.shape (position_at changes n) placement) [
    | inl holds ↦ down (node_count tree) n true (omega arith) (IsWayDown-start tree changes placement n holds)
    | inr lost ↦ inr (λ next is. lost (is.held 0 n (omega arith) refl))
  ]
