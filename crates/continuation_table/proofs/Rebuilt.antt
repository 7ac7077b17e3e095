-- A position that is rebuilt by one walk up the parents.
use Rattle.std.proofs.Common.{◌≡◌, ◌≢◌, ℕ, ◌+◌, ◌-◌, ◌<◌, inl, inr, cond, List, [], ◌∷◌, length, get_or, set, take, Option, Some, None, refl, sym, ap, subst, ◌∙◌, arith}
use Rattle.std.specs.Prelude.{All, IfSome, is_some, replicate}
use Rattle.std.specs.Option.{option_map_or}
use Rattle.std.proofs.lemmas.Bool.{cases_eq, cases_lt}
use Rattle.std.proofs.lemmas.List.{get_or-replicate, get_or_past, length-replicate, get_or-set_other, get_or-set_same, take_more}
use Rattle.std.proofs.lemmas.List.Elements.{All-weaker}
use Rattle.std.proofs.lemmas.Option.{same_Some}
use Rattle.kb_geometry.specs.declared.shape.Shape.{Shape}
use Rattle.kb_geometry.specs.declared.shape.TheConstants.{MAX_POINTS}
use Rattle.kb_geometry.specs.declared.stone.Cell.{Cell}
use Rattle.kb_geometry.specs.declared.stone.Cell.TheVariants as stone
use Rattle.kb_geometry.specs.declared.stone.Change.{Change}
use Rattle.kb_geometry.specs.Board.{point_count}
use Rattle.kb_geometry.specs.Capture.{Position, cell_at, empty_board}
use Rattle.kb_geometry.proofs.Shapes.{point_count-le-most}
use Rattle.capture_board.specs.Changes.{AreChangesOf, with_changes}
use Rattle.capture_board.specs.Deltas.{AreDeltas, Deltas, changes_of, node_count, parent_of, position_at, position_where}
use Rattle.capture_board.proofs.DeltaPaths.{length-position_where, position_at-step}
use Rattle.capture_board.proofs.WalkerSteps.{height}
use Rattle.capture_board.proofs.MadeChanges.{length-with_changes, with_changes-append}
use Rattle.continuation_table.specs.Rebuilding.{cell_over, known_cell, noted}

-- a cell that is known, or another one
abbrev over : Option Cell → Cell → Cell
over o d = option_map_or (λ c. c) o d

module _ (known : List (Option Cell)) (below : Position) (c : Change) (in_room : c.point < length known) (on_board : c.point < length below) (p : ℕ) where
  noted_here : (o : Option Cell) → get_or known c.point None ≡ o → c.point ≡ p → cell_over (cond (is_some o) known (set known c.point (Some c.new))) below p ≡ cell_over known (set below c.point c.new) p
  noted_here None none here =
      ap (λ (o : Option Cell). over o (cell_at below p)) (ap (λ (q : ℕ). get_or (set known c.point (Some c.new)) q None) (sym here) ∙ get_or-set_same known c.point (Some c.new) None in_room)
      ∙ sym (ap (λ (o : Option Cell). over o (cell_at (set below c.point c.new) p)) (ap (λ (q : ℕ). get_or known q None) (sym here) ∙ none)
      ∙ ap (cell_at (set below c.point c.new)) (sym here) ∙ get_or-set_same below c.point c.new stone.Empty on_board)
  noted_here (Some x) some here =
      let there : get_or known p None ≡ Some x = ap (λ (q : ℕ). get_or known q None) (sym here) ∙ some in
      ap (λ (o : Option Cell). over o (cell_at below p)) there ∙ sym (ap (λ (o : Option Cell). over o (cell_at (set below c.point c.new) p)) there)

  noted_there : (o : Option Cell) → c.point ≢ p → cell_over (cond (is_some o) known (set known c.point (Some c.new))) below p ≡ cell_over known (set below c.point c.new) p
  noted_there None other =
      ap (λ (o : Option Cell). over o (cell_at below p)) (get_or-set_other known c.point p (Some c.new) None (λ e. other (sym e)))
      ∙ ap (over (get_or known p None)) (sym (get_or-set_other below c.point p c.new stone.Empty (λ e. other (sym e))))
  noted_there (Some x) other = ap (over (get_or known p None)) (sym (get_or-set_other below c.point p c.new stone.Empty (λ e. other (sym e))))

  -- noting a change over a position is the same as making it there
  pub over-noted : cell_over (noted known c) below p ≡ cell_over known (set below c.point c.new) p
  over-noted = elim (cases_eq c.point p) [
    | inl here ↦ noted_here (get_or known c.point None) refl here
    | inr other ↦ noted_there (get_or known c.point None) other
  ]

-- The last changes of a list are noted: over a position, this is the same as making all of them there.
abbrev pub AreNoted : List (Option Cell) → List Change → ℕ → List (Option Cell) → Type 0
AreNoted start changes left known =
    (below : Position) (p : ℕ) → All (λ (c : Change). c.point < length below) changes →
    cell_over known (with_changes below (take left changes)) p ≡ cell_over start (with_changes below changes) p

pub AreNoted-more : (start : List (Option Cell)) (changes : List Change) (left : ℕ) (known : List (Option Cell)) (d : Change) → left < length changes → (get_or changes left d).point < length known → AreNoted start changes (left + 1) known → AreNoted start changes left (noted known (get_or changes left d))
AreNoted-more start changes left known d lt in_room so_far below p on_board =
    let c = get_or changes left d in
    let q = with_changes below (take left changes) in
    let fits : c.point < length q = omega (arith, length-with_changes below (take left changes), on_board left d lt) in
    over-noted known q c in_room fits p
    ∙ sym (ap (λ (cs : List Change). cell_over known (with_changes below cs) p) (take_more changes left d lt) ∙ ap (λ (b : Position). cell_over known b p) (with_changes-append below (take left changes) (c ∷ [])))
    ∙ so_far below p on_board

-- as the code counts
pub AreNoted-next : (start : List (Option Cell)) (changes : List Change) (k room : ℕ) (known after : List (Option Cell)) (d : Change) → k < length changes → All (λ (c : Change). c.point < room) changes → length known ≡ room →
    AreNoted start changes (length changes - k) known → after ≡ noted known (get_or changes (length changes - 1 - k) d) → AreNoted start changes (length changes - (k + 1)) after
AreNoted-next start changes k room known after d lt in_room full so_far told =
    let left : ℕ = length changes - (k + 1) in
    let within : left < length changes = omega arith in
    let more : length changes - k ≡ left + 1 = omega arith in
    let same : length changes - 1 - k ≡ left = omega arith in
    let fits : (get_or changes left d).point < length known = omega (arith, in_room left d within) in
    subst (AreNoted start changes left) (sym (told ∙ ap (λ (i : ℕ). noted known (get_or changes i d)) same))
    (AreNoted-more start changes left known d within fits (subst (λ (n : ℕ). AreNoted start changes n known) more so_far))

-- ---- a list with one entry everywhere, which is also what stands past its end

default_entry : {X : Type 0} (n : ℕ) (d : X) (p : ℕ) → get_or (replicate n d) p d ≡ d
default_entry n d p = elim (cases_lt p n) [
  | inl lt ↦ get_or-replicate n p d d lt
  | inr past ↦ get_or_past (replicate n d) p d (omega (arith, length-replicate n d))
]

-- where nothing is known, all is as it is below
pub over-nothing : (room : ℕ) (below : Position) (p : ℕ) → cell_over (replicate room None) below p ≡ cell_at below p
over-nothing room below p = ap (λ (o : Option Cell). over o (cell_at below p)) (default_entry room None p)

-- over an empty board, a point of which nothing is known is empty
pub over-empty : (known : List (Option Cell)) (shape : Shape) (p : ℕ) → known_cell known p ≡ cell_over known (empty_board shape) p
over-empty known shape p = ap (over (get_or known p None)) (sym (default_entry (point_count shape) stone.Empty p))

-- ---- the walk up

-- The way up has reached a node, or above the root: what is known, over the position there, is the position where it began.
pub record IsRebuilt (deltas : Deltas) (node : ℕ) (known : List (Option Cell)) (here : Option ℕ) : Type 0 where
  pub in_range : IfSome here (λ n. n < node_count deltas)
  pub shown : (p : ℕ) → cell_over known (position_where deltas here) p ≡ cell_at (position_at deltas node) p

pub IsRebuilt-start : (deltas : Deltas) (node room : ℕ) (known : List (Option Cell)) → node < node_count deltas → known ≡ replicate room None → IsRebuilt deltas node known (Some node)
IsRebuilt-start deltas node room known lt none = record {
  in_range = lt;
  shown = λ p. ap (λ (k : List (Option Cell)). cell_over k (position_at deltas node) p) none ∙ over-nothing room (position_at deltas node) p;
}

earlier_node : (deltas : Deltas) (o : Option ℕ) (n : ℕ) → IfSome o (λ m. m < n) → n < node_count deltas → IfSome o (λ m. m < node_count deltas)
earlier_node deltas None n before lt = tt
earlier_node deltas (Some m) n before lt = omega arith

module _ (deltas : Deltas) (good : AreDeltas deltas) (n : ℕ) (changes : List Change) (value : changes ≡ changes_of deltas n) (are : AreChangesOf (position_where deltas (parent_of deltas n)) changes) where
  -- there is room for each point of the changes
  pub in_room-changes : All (λ (c : Change). c.point < MAX_POINTS) changes
  in_room-changes =
      All-weaker (λ (c : Change). c.point < length (position_where deltas (parent_of deltas n))) (λ (c : Change). c.point < MAX_POINTS)
      (λ c lt. omega (arith, length-position_where deltas (parent_of deltas n), point_count-le-most deltas.shape)) changes are.on_board

  pub IsRebuilt-more : (node : ℕ) (known after : List (Option Cell)) (here next : Option ℕ) → IsRebuilt deltas node known here → here ≡ Some n →
      ((below : Position) (p : ℕ) → All (λ (c : Change). c.point < length below) changes → cell_over after below p ≡ cell_over known (with_changes below changes) p) →
      next ≡ parent_of deltas n → IfSome next (λ m. m < n) → IsRebuilt deltas node after next
  IsRebuilt-more node known after here next so_far at_node told up before =
      let lt : n < node_count deltas = subst (λ (o : Option ℕ). IfSome o (λ m. m < node_count deltas)) at_node so_far.in_range in
      record {
        in_range = earlier_node deltas next n before lt;
        shown = λ p.
            ap (λ (o : Option ℕ). cell_over after (position_where deltas o) p) up
            ∙ told (position_where deltas (parent_of deltas n)) p are.on_board
            ∙ ap (λ (cs : List Change). cell_over known (with_changes (position_where deltas (parent_of deltas n)) cs) p) value
            ∙ ap (λ (q : Position). cell_over known q p) (sym (position_at-step deltas good n))
            ∙ sym (ap (λ (o : Option ℕ). cell_over known (position_where deltas o) p) at_node)
            ∙ so_far.shown p;
      }

pub IsRebuilt-end : (deltas : Deltas) (node : ℕ) (known : List (Option Cell)) (here : Option ℕ) → IsRebuilt deltas node known here → here ≡ None → (p : ℕ) → known_cell known p ≡ cell_at (position_at deltas node) p
IsRebuilt-end deltas node known here so_far above p =
    over-empty known deltas.shape p
    ∙ sym (ap (λ (o : Option ℕ). cell_over known (position_where deltas o) p) above)
    ∙ so_far.shown p

pub height-lt : (here next : Option ℕ) (n : ℕ) → here ≡ Some n → IfSome next (λ m. m < n) → height next < height here
height-lt None next n e before = absurd cc
height-lt (Some k) None n e before = omega arith
height-lt (Some k) (Some m) n e before = omega (arith, same_Some k n e)
