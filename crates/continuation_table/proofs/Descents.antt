-- The way down from a node by first children, as long as no move lies in the placement's rectangle and the placement holds.
use Prim.Native.Nat.{zero}
use Rattle.std.proofs.Common.{◌≡◌, ℕ, ◌+◌, ◌-◌, ◌<◌, ◌≤◌, ◌↔◌, suc, inl, inr, Bool, true, Option, Some, None, IsTrue, refl, sym, ap, subst, ◌∙◌, arith}
use Rattle.std.specs.Prelude.{◌==◌, option_and_then, is_some}
use Rattle.std.proofs.lemmas.Bool.{cases_lt, eq-eqb, eqb-true}
use Rattle.std.proofs.lemmas.Option.{same_Some}
use Rattle.kb_geometry.specs.declared.shape.Point.{Point}
use Rattle.kb_geometry.specs.declared.stone.Colour.{Colour}
use Rattle.kb_geometry.specs.Symmetry.{point_of}
use Rattle.game_tree.specs.declared.node.Move.{Move}
use Rattle.kb_geometry.specs.Counts.{one_if}
use Rattle.game_tree.specs.Tree.{Tree, IsTree, first_child_of, move_number_of, node_at, parent_of}
use Rattle.game_tree.proofs.Paths.{move_number-parent}
use Rattle.capture_board.specs.Deltas.{Deltas}
use Rattle.pattern_images.specs.declared.hit.Next.{Next}
use Rattle.pattern_images.specs.Placements.{Placement}
use Rattle.pattern_occurrences.specs.Occurrences.{HoldsAt}
use Rattle.continuation_table.specs.Continuation.{HasMoveInside, IsContinuation, IsMoveInside, IsTurnedBack, below, own_colour}
use Rattle.continuation_table.specs.Descending.{IsWayDown}

-- two nodes reached by as many steps are one
same_node : (tree : Tree) (n j k a b : ℕ) → j ≡ k → below tree n j ≡ Some a → below tree n k ≡ Some b → a ≡ b
same_node tree n j k a b same ea eb = same_Some a b (sym ea ∙ ap (below tree n) same ∙ eb)

-- behind the last node there is none
below-none : (tree : Tree) (n k j m : ℕ) → below tree n k ≡ None → j + k ≡ m → below tree n m ≡ None
below-none tree n k zero m none there = let same : m ≡ k = omega arith in ap (below tree n) same ∙ none
below-none tree n k (suc j) zero none there = absurd (omega arith)
below-none tree n k (suc j) (suc m) none there = ap (option_and_then (first_child_of tree)) (below-none tree n k j m none (omega arith))

module _ (tree : Tree) (changes : Deltas) (placement : Placement) (n : ℕ) where
  pub IsWayDown-start : HoldsAt changes placement n → IsWayDown tree changes placement n n true
  IsWayDown-start holds = record {
    steps = 0;
    reached = refl;
    none = λ k m lt. absurd (omega arith);
    held = λ k m le e. subst (HoldsAt changes placement) (same_node tree n 0 k n m (omega arith) refl e) holds;
    quiet = (λ t k m lt. absurd (omega arith), λ h. refl);
  }

  module _ (here : ℕ) (now : Bool) (way : IsWayDown tree changes placement n here now) where
    -- the placement holds there
    pub IsWayDown-holds : HoldsAt changes placement here
    IsWayDown-holds = way.held way.steps here (omega arith) way.reached

    module _ (child : ℕ) (next : first_child_of tree here ≡ Some child) where
      child_reached : below tree n (suc way.steps) ≡ Some child
      child_reached = ap (option_and_then (first_child_of tree)) way.reached ∙ next

      pub IsWayDown-more : ¬ HasMoveInside tree placement child → HoldsAt changes placement child → (after : Bool) → (IsTrue after ↔ (IsTrue now × ((node_at tree child).played ≡ None))) → IsWayDown tree changes placement n child after
      IsWayDown-more outside holds after told = record {
        steps = suc way.steps;
        reached = child_reached;
        none = λ k m lt e. elim (cases_lt k way.steps) [
          | inl earlier ↦ way.none k m earlier e
          | inr last ↦ subst (λ (i : ℕ). ¬ HasMoveInside tree placement i) (same_node tree n (suc way.steps) (suc k) child m (omega arith) child_reached e) outside
        ];
        held = λ k m le e. elim (cases_lt way.steps k) [
          | inl last ↦ subst (HoldsAt changes placement) (same_node tree n (suc way.steps) k child m (omega arith) child_reached e) holds
          | inr earlier ↦ way.held k m earlier e
        ];
        quiet = (
          λ t k m lt e. let parts = told.0 t in elim (cases_lt k way.steps) [
            | inl earlier ↦ way.quiet.0 parts.0 k m earlier e
            | inr last ↦ subst (λ (i : ℕ). (node_at tree i).played ≡ None) (same_node tree n (suc way.steps) (suc k) child m (omega arith) child_reached e) parts.1
          ],
          λ h. told.1 (way.quiet.1 (λ k m lt e. h k m (omega arith) e), h way.steps child (omega arith) child_reached),
        );
      }

      -- a move in the rectangle is the continuation
      pub IsContinuation-found : (colour : Colour) (point : Point) → IsMoveInside tree placement child colour point → (next : Next) → next.now ≡ now → IsTurnedBack placement point (point_of next.x next.y) → next.colour ≡ own_colour placement.label colour → IsContinuation tree changes placement n next
      IsContinuation-found colour point move next same own_point own_side = record {
        between = way.steps;
        node = child;
        reached = child_reached;
        colour = colour;
        point = point;
        move = move;
        first = way.none;
        held = way.held;
        at_once = subst (λ (b : Bool). IsTrue b ↔ ((k m : ℕ) → k < way.steps → below tree n (suc k) ≡ Some m → (node_at tree m).played ≡ None)) (sym same) way.quiet;
        own_point = own_point;
        own_side = own_side;
      }

      -- where the placement doesn't hold at the next node, and that has no move in the rectangle, there is none
      pub no_continuation-lost : ¬ HasMoveInside tree placement child → ¬ HoldsAt changes placement child → (next : Next) → ¬ IsContinuation tree changes placement n next
      no_continuation-lost outside lost next is =
          let inside : HasMoveInside tree placement is.node = record { colour = is.colour; point = is.point; move = is.move } in
          elim (cases_lt is.between way.steps) [
            | inl earlier ↦ way.none is.between is.node earlier is.reached inside
            | inr later ↦ elim (cases_lt way.steps is.between) [
              | inl passed ↦ lost (is.held (suc way.steps) child (omega arith) child_reached)
              | inr last ↦ outside (subst (HasMoveInside tree placement) (same_node tree n (suc is.between) (suc way.steps) is.node child (omega arith) is.reached child_reached) inside)
            ]
          ]

    -- where the way ends there is none
    pub no_continuation-end : first_child_of tree here ≡ None → (next : Next) → ¬ IsContinuation tree changes placement n next
    no_continuation-end end next is =
        let inside : HasMoveInside tree placement is.node = record { colour = is.colour; point = is.point; move = is.move } in
        elim (cases_lt is.between way.steps) [
          | inl earlier ↦ way.none is.between is.node earlier is.reached inside
          | inr later ↦
              let none : below tree n (suc way.steps) ≡ None = ap (option_and_then (first_child_of tree)) way.reached ∙ end in
              let no : None ≡ Some is.node = sym (below-none tree n (suc way.steps) (is.between - way.steps) (suc is.between) none (omega arith)) ∙ is.reached in
              absurd cc
        ]

-- ---- whether no move or pass came

-- the moves on the path to a node are those to its parent, and its own
pub moves-more : (tree : Tree) → IsTree tree → (n m : ℕ) → parent_of tree n ≡ Some m →
    move_number_of tree n ≡ move_number_of tree m + one_if (is_some (node_at tree n).played)
moves-more tree is n m above = move_number-parent tree (record { most = is.most; parents = is.parents; on_board = is.on_board }) n m above

-- By the moves on the paths to a first node, to a node below it and to a child of that: none came as far as to the child
-- where none came as far as to its parent, and it plays none.
pub quiet-more : (first parent child : ℕ) (played : Option Move) → first ≤ parent → child ≡ parent + one_if (is_some played) →
    IsTrue (child == first) ↔ (IsTrue (parent == first) × (played ≡ None))
quiet-more first parent child None least counted =
    let same : child ≡ parent = omega (arith, counted) in (
      λ t. (eq-eqb parent first (sym same ∙ eqb-true child first t), refl),
      λ h. eq-eqb child first (same ∙ eqb-true parent first h.0),
    )
quiet-more first parent child (Some move) least counted = (
  λ t. absurd (omega (arith, counted, least, eqb-true child first t)),
  λ h. let no : Some move ≡ None = h.1 in absurd cc,
)
