-- The moves of the main line: their numbers rise along it, so each number is that of one move at most.
use Rattle.std.proofs.Common.{◌≡◌, ◌⊎◌, ℕ, zero, suc, ◌+◌, ◌-◌, ◌<◌, ◌≤◌, Option, Some, None, refl, sym, ◌∙◌, ap, subst, inl, inr, arith}
use Rattle.std.proofs.lemmas.Bool.{cases_eq, cases_lt}
use Rattle.std.specs.Prelude.{IfSome, is_some}
use Rattle.kb_geometry.specs.declared.shape.Point.{Point}
use Rattle.kb_geometry.specs.Board.{IsOnBoard}
use Rattle.game_tree.specs.declared.node.Move.{Move}
use Rattle.game_tree.specs.Built.{IsGrown}
use Rattle.game_tree.specs.MainLine.{IsOnMainLine}
use Rattle.kb_geometry.specs.Counts.{one_if}
use Rattle.game_tree.specs.Stored.{IsMainEnd}
use Rattle.game_tree.specs.Tree.{IsTree, Tree, move_number_of, node_at, node_count}
use Rattle.game_tree.proofs.MainLines.{IsOnMainLine-below, main_end}
use Rattle.game_tree.proofs.Paths.{move_number-parent}
use Rattle.game_tree.proofs.Trees.{IsGrown-tree}
use Rattle.dyer_signature.specs.Signatures.{IsMainMove, IsPointOfMove}

cases_move : (o : Option Move) → (o ≡ None) ⊎ ((move : Move) × (o ≡ Some move))
cases_move None = inl refl
cases_move (Some move) = inr (move, refl)

module _ (tree : Tree) (is_tree : IsTree tree) where
  grown : IsGrown tree
  grown = IsGrown-tree tree is_tree

  -- the main line is the nodes below a number
  main : (end : ℕ) × IsMainEnd tree end
  main = main_end tree is_tree.some

  below_main : (n : ℕ) → IsOnMainLine tree n → n < main.0
  below_main n on = (IsOnMainLine-below tree grown main.0 main.1 is_tree.some n).1 on

  on_main : (n : ℕ) → n < main.0 → IsOnMainLine tree n
  on_main n lt = (IsOnMainLine-below tree grown main.0 main.1 is_tree.some n).0 lt

  -- a node of the main line is a node of the tree
  pub main-in_range : (n : ℕ) → IsOnMainLine tree n → n < node_count tree
  main-in_range n on = omega (arith, below_main n on, main.1.within)

  -- what isn't on the main line stands behind it
  pub main-before : (n m : ℕ) → ¬ IsOnMainLine tree n → IsOnMainLine tree m → m < n
  main-before n m off on = elim (cases_lt m n) [
    | inl lt ↦ lt
    | inr le ↦ absurd (off (on_main n (omega (arith, below_main m on))))
  ]

  next_number : (n : ℕ) → n + 1 < main.0 → move_number_of tree (n + 1) ≡ move_number_of tree n + one_if (is_some (node_at tree (n + 1)).played)
  next_number n lt = move_number-parent tree grown (n + 1) n (main.1.line n lt)

  numbers_rise : (d n m : ℕ) → m ≡ n + d → m < main.0 → move_number_of tree n ≤ move_number_of tree m
  numbers_rise zero n m e lt =
      let same : m ≡ n = omega arith in
      omega (arith, ap (move_number_of tree) same)
  numbers_rise (suc d) n m e lt =
      let same : m ≡ n + d + 1 = omega arith in
      let before = numbers_rise d n (n + d) refl (omega arith) in
      omega (arith, before, next_number (n + d) (omega arith), ap (move_number_of tree) same)

  -- a later move has a greater number
  pub later_number : (n m : ℕ) (move : Move) → n < m → IsOnMainLine tree m → (node_at tree m).played ≡ Some move → move_number_of tree n + 1 ≤ move_number_of tree m
  later_number n m move lt on played =
      let below = below_main m on in
      let same : m ≡ m - 1 + 1 = omega arith in
      let before = numbers_rise (m - 1 - n) n (m - 1) (omega arith) (omega arith) in
      let step = next_number (m - 1) (omega arith) in
      let one : ◌≡◌ {A = ℕ} (one_if (is_some (node_at tree (m - 1 + 1)).played)) 1 =
      ap (λ k. one_if (is_some (node_at tree k).played)) (sym same) ∙ ap (λ o. one_if (is_some o)) played in
      omega (arith, before, step, one, ap (move_number_of tree) same)

  -- a number is that of one node's move
  pub one_node : (number a b : ℕ) (x y : Move) → IsMainMove tree number a x → IsMainMove tree number b y → a ≡ b
  one_node number a b x y at_a at_b = elim (cases_lt a b) [
    | inl lt ↦ absurd (omega (arith, later_number a b y lt at_b.on_main_line at_b.played, at_a.numbered, at_b.numbered))
    | inr le ↦ elim (cases_lt b a) [
      | inl lt ↦ absurd (omega (arith, later_number b a x lt at_a.on_main_line at_a.played, at_a.numbered, at_b.numbered))
      | inr ge ↦ omega arith
    ]
  ]

  pub one_move : (number a b : ℕ) (x y : Move) → IsMainMove tree number a x → IsMainMove tree number b y → x ≡ y
  one_move number a b x y at_a at_b =
      let same = one_node number a b x y at_a at_b in
      let moves : Some x ≡ Some y = sym at_a.played ∙ ap (λ n. (node_at tree n).played) same ∙ at_b.played in
      cc

  -- so each number has one point, or none
  pub IsPointOfMove-only : (number : ℕ) (p q : Option Point) → IsPointOfMove tree number p → IsPointOfMove tree number q → p ≡ q
  IsPointOfMove-only number _ _ (IsPointOfMove.played a colour at_a) (IsPointOfMove.played b other at_b) =
      ap (λ (m : Move). m.point) (one_move number a b _ _ at_a at_b)
  IsPointOfMove-only number _ _ (IsPointOfMove.played a colour at_a) (IsPointOfMove.missing none) = absurd (none a _ at_a)
  IsPointOfMove-only number _ _ (IsPointOfMove.missing none) (IsPointOfMove.played b other at_b) = absurd (none b _ at_b)
  IsPointOfMove-only number _ _ (IsPointOfMove.missing none) (IsPointOfMove.missing others) = refl

  -- a node of the main line has the move with a number, or hasn't
  has_move : (number n : ℕ) → ((move : Move) × IsMainMove tree number n move) ⊎ ((move : Move) → ¬ IsMainMove tree number n move)
  has_move number n = elim (cases_lt n main.0) [
    | inl lt ↦ elim (cases_move (node_at tree n).played) [
      | inl none ↦ inr (λ move at. let e : None ≡ Some move = sym none ∙ at.played in absurd cc)
      | inr (move, played) ↦ elim (cases_eq (move_number_of tree n) number) [
        | inl e ↦ inl (move, record { on_main_line = on_main n lt; played = played; numbered = e })
        | inr ne ↦ inr (λ other at. ne at.numbered)
      ]
    ]
    | inr le ↦ inr (λ move at. omega (arith, below_main n at.on_main_line))
  ]

  find_move : (number most : ℕ) → ((n : ℕ) × (move : Move) × IsMainMove tree number n move) ⊎ ((n : ℕ) (move : Move) → n < most → ¬ IsMainMove tree number n move)
  find_move number zero = inr (λ n move lt at. omega arith)
  find_move number (suc most) = elim (find_move number most) [
    | inl found ↦ inl found
    | inr none ↦ elim (has_move number most) [
      | inl (move, at) ↦ inl (most, move, at)
      | inr never ↦ inr (λ n move lt at. elim (cases_lt n most) [
        | inl below ↦ none n move below at
        | inr here ↦
            let same : n ≡ most = omega arith in
            never move (subst (λ k. IsMainMove tree number k move) same at)
      ])
    ]
  ]

  pub some_point : (number : ℕ) → (point : Option Point) × IsPointOfMove tree number point
  some_point number = elim (find_move number main.0) [
    | inl (n, move, at) ↦ (move.point, IsPointOfMove.played n move.colour at)
    | inr none ↦ (None, IsPointOfMove.missing (λ n move at. none n move (below_main n at.on_main_line) at))
  ]

  -- the point of a move lies on the board
  pub point-on_board : (number : ℕ) (point : Option Point) → IsPointOfMove tree number point → IfSome point (λ (p : Point). IsOnBoard tree.shape p)
  point-on_board number _ (IsPointOfMove.played n colour at) =
      subst (λ (o : Option Move). IfSome o (λ (m : Move). IfSome m.point (λ (p : Point). IsOnBoard tree.shape p))) at.played (is_tree.on_board n (main-in_range n at.on_main_line)).played
  point-on_board number _ (IsPointOfMove.missing none) = tt
