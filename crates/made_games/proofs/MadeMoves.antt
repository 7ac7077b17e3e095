-- The moves of a made game, one after another, and that they lie on the board.
use Prim.Native.Nat.{zero}
use Rattle.std.proofs.Common.{◌≡◌, ℕ, ◌+◌, ◌%◌, ◌≤◌, inl, inr, suc, List, [], ◌∷◌, ◌++◌, All, Some, length, map, refl, sym, ◌∙◌, ap, arith}
use Rattle.std.specs.Prelude.{◌==◌}
use Rattle.std.proofs.lemmas.Bool.{cases_Bool}
use Rattle.std.proofs.lemmas.List.FromFn.{length-map-range_with_len, map-range_with_len_more}
use Rattle.std.proofs.lemmas.List.Elements.{All-cons, All-nil}
use Rattle.std.specs.List.{range_with_len}
use Rattle.kb_geometry.specs.Board.{cols_of, rows_of}
use Rattle.kb_geometry.specs.declared.shape.Shape.{Shape}
use Rattle.kb_geometry.proofs.Shapes.{shape_same}
use Rattle.game_tree.specs.declared.node.Move.{Move}
use Rattle.game_tree.specs.Line.{line_node, line_tree, told_result}
use Rattle.game_tree.specs.Tree.{IsTree, Tree, node_count}
use Rattle.game_tree.specs.Information.{HasNoControls}
use Rattle.sgf_reader.specs.Bytes.{space}
use Rattle.game_tree.proofs.Lines.{LiesOn, line-is_tree}
use Rattle.made_games.specs.Made.{first_number, made_move, made_moves, made_tree, mover, next_number, number_after, point_of, result_text, standard_shape}

pub number-more : (first turn : ℕ) → next_number (number_after first turn) ≡ number_after first (turn + 1)
number-more first turn = let one : suc turn ≡ turn + 1 = omega arith in ap (number_after first) one

pub moves-more : (first turn number : ℕ) → number ≡ number_after first turn →
    made_moves first turn ++ record { colour = mover turn; point = Some (point_of (next_number number)) } ∷ [] ≡ made_moves first (turn + 1)
moves-more first turn number e =
    ap (λ k. made_moves first turn ++ record { colour = mover turn; point = Some (point_of (next_number k)) } ∷ []) e
    ∙ sym (map-range_with_len_more (made_move first) 0 turn turn (omega arith))

pub moves-length : (first count : ℕ) → length (made_moves first count) ≡ count
moves-length first count = length-map-range_with_len (made_move first) 0 count

module _ (shape : Shape) (cols : cols_of shape ≡ 19) (rows : rows_of shape ≡ 19) (first : ℕ) where
  lie_from : (a n : ℕ) → All (LiesOn shape) (map (made_move first) (range_with_len a n))
  lie_from a zero = All-nil (LiesOn shape)
  lie_from a (suc n) =
      All-cons (LiesOn shape) (made_move first a) (map (made_move first) (range_with_len (a + 1) n)) (omega (arith, cols), omega (arith, rows)) (lie_from (a + 1) n)

  pub moves-on_board : (count : ℕ) → All (LiesOn shape) (made_moves first count)
  moves-on_board count = lie_from 0 count

pub shape-is : (shape : Shape) → cols_of shape ≡ 19 → rows_of shape ≡ 19 → shape ≡ standard_shape
shape-is shape cols rows = shape_same shape standard_shape cols rows

-- the tree of such moves, by what its parts are
pub tree-is : (start game number : ℕ) (shape : Shape) (text : List ℕ) (moves : List Move) (tree : Tree) → number ≡ first_number start game →
    shape ≡ standard_shape → text ≡ result_text game → moves ≡ made_moves number 200 → tree ≡ line_tree shape (told_result text) moves → tree ≡ made_tree start game
tree-is start game number shape text moves tree first board told made is =
    is ∙ ap (λ (s : Shape). line_tree s (told_result text) moves) board
    ∙ ap (λ (t : List ℕ). line_tree standard_shape (told_result t) moves) told
    ∙ ap (λ (ms : List Move). line_tree standard_shape (told_result (result_text game)) ms) (made ∙ ap (λ n. made_moves n 200) first)

pub made-nodes : (start game : ℕ) → node_count (made_tree start game) ≡ 201
made-nodes start game =
    let moves = made_moves (first_number start game) 200 in
    let many : length moves ≡ 200 = moves-length (first_number start game) 200 in
    let nodes : node_count (made_tree start game) ≡ length moves + 1 = length-map-range_with_len (line_node moves) 0 (length moves + 1) in
    omega (arith, nodes, many)

-- ---- a made game is a tree

abbrev Printed : ℕ → Type 0
Printed b = space ≤ b

no_controls : (game : ℕ) → HasNoControls (result_text game)
no_controls game = elim (cases_Bool (game % 2 == 0)) [
  | inl even ↦ rw even (All-cons Printed 66 (43 ∷ 82 ∷ []) (omega arith) (All-cons Printed 43 (82 ∷ []) (omega arith) (All-cons Printed 82 [] (omega arith) (All-nil Printed))))
  | inr odd ↦ rw odd (All-cons Printed 87 (43 ∷ 82 ∷ []) (omega arith) (All-cons Printed 43 (82 ∷ []) (omega arith) (All-cons Printed 82 [] (omega arith) (All-nil Printed))))
]

pub made-tree : (start game : ℕ) → IsTree (made_tree start game)
made-tree start game =
    let moves = made_moves (first_number start game) 200 in
    let none : HasNoControls [] = All-nil Printed in
    line-is_tree standard_shape moves (omega (arith, moves-length (first_number start game) 200)) (moves-on_board standard_shape refl refl (first_number start game) 200)
    (told_result (result_text game)) (record { black = none; white = none; event = none; place = none; date = none; outcome_text = no_controls game })
