-- A query has one list of placements on a board: its members are fixed, and so is their order.
use Rattle.std.proofs.Common.{◌≡◌, ◌≤◌, inl, inr, List, sym, ◌∙◌, subst, arith}
use Rattle.std.specs.Prelude.{Contains}
use Rattle.std.proofs.lemmas.List.{get_or_default}
use Rattle.kb_geometry.specs.declared.shape.Shape.{Shape}
use Rattle.kb_geometry.proofs.Lists.{same_order}
use Rattle.pattern_images.specs.declared.query.Query.{Query}
use Rattle.pattern_images.specs.Placements.{ArePlacements, Placement, IsBefore, IsResult, IsSame}
use Rattle.pattern_images.proofs.Turned.{same_placement}

-- of two placements only one is before the other
pub before_opposed : (a b : Placement) → IsBefore a b → IsBefore b a → ⊥
before_opposed a b (inl above) (inl above') = omega arith
before_opposed a b (inl above) (inr (row, _)) = omega arith
before_opposed a b (inr (row, _)) (inl above) = omega arith
before_opposed a b (inr (row, inl left)) (inr (row', inl left')) = omega arith
before_opposed a b (inr (row, inl left)) (inr (row', inr (column, less))) = omega arith
before_opposed a b (inr (row, inr (column, less))) (inr (row', inl left)) = omega arith
before_opposed a b (inr (row, inr (column, less))) (inr (row', inr (column', less'))) = omega arith

-- what is in one list is in the other
members : (query : Query) (shape : Shape) (a b : List Placement) → ArePlacements query shape a → ArePlacements query shape b → (p : Placement) → Contains a p → Contains b p
members query shape a b are_a are_b p (k, below, is) =
    let result : IsResult query shape p = subst (IsResult query shape) is (are_a.sound k p below) in
    let (j, q, j_in, q_is, same) = are_b.complete p result in
    let other : IsResult query shape q = subst (IsResult query shape) q_is (are_b.sound j q j_in) in
    let at_most : p.label ≤ q.label = subst (λ (x : Placement). IsSame x q → x.label ≤ q.label) is (are_a.least k p below q other) same in
    let at_least : q.label ≤ p.label = subst (λ (x : Placement). IsSame x p → x.label ≤ p.label) q_is (are_b.least j q j_in p result) (record { column = sym same.column; row = sym same.row; grid = sym same.grid }) in
    let one : q ≡ p = same_placement q p (omega arith) (sym same.column) (sym same.row) (sym same.grid) in
    (j, j_in, get_or_default b j p q j_in ∙ q_is ∙ one)

pub one_list : (query : Query) (shape : Shape) (a b : List Placement) → ArePlacements query shape a → ArePlacements query shape b → a ≡ b
one_list query shape a b are_a are_b =
    same_order IsBefore before_opposed a b are_a.ordered are_b.ordered (members query shape a b are_a are_b) (members query shape b a are_b are_a)
