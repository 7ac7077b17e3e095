-- A placement has one continuation at most at a node.
use Rattle.std.proofs.Common.{◌≡◌, ℕ, suc, ◌-◌, ◌<◌, inl, inr, Bool, true, false, IsTrue, Some, refl, sym, ap, ◌∙◌, arith}
use Rattle.std.proofs.lemmas.Bool.{cases_lt}
use Rattle.std.proofs.lemmas.Option.{same_Some}
use Rattle.kb_geometry.specs.declared.shape.Shape.{Shape}
use Rattle.kb_geometry.specs.declared.shape.Point.{Point}
use Rattle.kb_geometry.specs.Symmetry.{inverse_number, moved, point_of, symmetry_of}
use Rattle.kb_geometry.proofs.Shapes.{shape_same}
use Rattle.game_tree.specs.declared.node.Move.{Move}
use Rattle.game_tree.specs.Tree.{Tree, node_at}
use Rattle.capture_board.specs.Deltas.{Deltas}
use Rattle.pattern_images.specs.declared.hit.Next.{Next}
use Rattle.pattern_images.specs.Placements.{Placement}
use Rattle.continuation_table.specs.Continuation.{IsContinuation, IsTurnedBack, below, own_colour}

same_next : (a b : Next) → a.colour ≡ b.colour → a.x ≡ b.x → a.y ≡ b.y → a.now ≡ b.now → a ≡ b
same_next a b colour x y now =
    ap (λ c. record { colour = c; x = a.x; y = a.y; now = a.now }) colour
    ∙ ap (λ n. record { colour = b.colour; x = n; y = a.y; now = a.now }) x
    ∙ ap (λ n. record { colour = b.colour; x = b.x; y = n; now = a.now }) y
    ∙ ap (λ t. record { colour = b.colour; x = b.x; y = b.y; now = t }) now

same_test : (a b : Bool) → (IsTrue a → IsTrue b) → (IsTrue b → IsTrue a) → a ≡ b
same_test true true there back = refl
same_test true false there back = let e : false ≡ true = there refl in cc
same_test false true there back = let e : false ≡ true = back refl in cc
same_test false false there back = refl

module _ (tree : Tree) (changes : Deltas) (placement : Placement) (n : ℕ) where
  -- a move in the rectangle comes no earlier than the first one
  not_earlier : (a b : Next) (one : IsContinuation tree changes placement n a) (other : IsContinuation tree changes placement n b) →
      one.between < other.between → ⊥
  not_earlier a b one other less =
      other.first one.between one.node less one.reached (record { colour = one.colour; point = one.point; move = one.move })

  -- an earlier continuation's turned point is the other one's
  one_point : (p q own own' : Point) → p ≡ q → IsTurnedBack placement p own → IsTurnedBack placement q own' → own ≡ own'
  one_point p q own own' same one other =
      let sizes : one.size ≡ other.size = shape_same one.size other.size (one.columns ∙ sym other.columns) (one.rows ∙ sym other.rows) in
      one.turned
      ∙ ap (λ (s : Shape). moved (inverse_number (symmetry_of placement.label)) s (point_of (p.x - placement.x) (p.y - placement.y))) sizes
      ∙ ap (λ (r : Point). moved (inverse_number (symmetry_of placement.label)) other.size (point_of (r.x - placement.x) (r.y - placement.y))) same
      ∙ sym other.turned

  pub one_continuation : (a b : Next) → IsContinuation tree changes placement n a → IsContinuation tree changes placement n b → a ≡ b
  one_continuation a b one other =
      let as_late : one.between ≡ other.between = elim (cases_lt one.between other.between) [
        | inl less ↦ absurd (not_earlier a b one other less)
        | inr le ↦ elim (cases_lt other.between one.between) [
          | inl less ↦ absurd (not_earlier b a other one less)
          | inr ge ↦ omega arith
        ]
      ] in
      let nodes : one.node ≡ other.node =
      same_Some one.node other.node (sym one.reached ∙ ap (λ k. below tree n (suc k)) as_late ∙ other.reached) in
      let played = sym one.move.played ∙ ap (λ m. (node_at tree m).played) nodes ∙ other.move.played in
      let moves : ◌≡◌ {A = Move} (record { colour = one.colour; point = Some one.point })
      (record { colour = other.colour; point = Some other.point }) = same_Some _ _ played in
      let colours : one.colour ≡ other.colour = ap (λ (m : Move). m.colour) moves in
      let points : one.point ≡ other.point = same_Some one.point other.point (ap (λ (m : Move). m.point) moves) in
      let own : point_of a.x a.y ≡ point_of b.x b.y =
      one_point one.point other.point (point_of a.x a.y) (point_of b.x b.y) points one.own_point other.own_point in
      same_next a b
      (one.own_side ∙ ap (own_colour placement.label) colours ∙ sym other.own_side)
      (ap (λ (p : Point). p.x) own) (ap (λ (p : Point). p.y) own)
      (same_test a.now b.now
      (λ t. other.at_once.1 (λ k m lt e. one.at_once.0 t k m (omega arith) e))
      (λ t. one.at_once.1 (λ k m lt e. other.at_once.0 t k m (omega arith) e)))
