-- A tree has one list of positions.
use Prim.Native.Nat.{zero}
use Rattle.std.proofs.Common.{◌≡◌, ℕ, suc, ◌<◌, List, [], get_or, Option, Some, None, refl, sym, ◌∙◌, arith}
use Rattle.std.specs.Prelude.{IfSome}
use Rattle.std.specs.Option.{option_map_or}
use Rattle.std.proofs.lemmas.List.{ext_get_or}
use Rattle.kb_geometry.specs.declared.shape.Shape.{Shape}
use Rattle.kb_geometry.specs.declared.shape.Point.{Point}
use Rattle.kb_geometry.specs.declared.stone.Colour.{Colour}
use Rattle.kb_geometry.specs.Board.{number_of}
use Rattle.kb_geometry.specs.Capture.{IsMovePlayed, Position, empty_board}
use Rattle.game_tree.specs.declared.node.Move.{Move}
use Rattle.game_tree.specs.Position.{ArePositions, IsMoved, position_above, set_up_all}
use Rattle.game_tree.specs.Tree.{IsTree, Tree, node_at, node_count, parent_of}
use Rattle.capture_board.proofs.Captures.{IsPlayed-unique}
use Rattle.node_position.proofs.Following.{parent_before}

move-unique : (shape : Shape) (before : Position) (side : Colour) (point : Option Point) (one other : Position) → IsMovePlayed shape before side point one → IsMovePlayed shape before side point other → one ≡ other
move-unique shape before side None one other h k = h ∙ sym k
move-unique shape before side (Some p) one other h k = IsPlayed-unique shape before side (number_of shape p) one other h k

moved-unique : (shape : Shape) (before : Position) (played : Option Move) (one other : Position) → IsMoved shape before played one → IsMoved shape before played other → one ≡ other
moved-unique shape before None one other h k = h ∙ sym k
moved-unique shape before (Some m) one other h k = move-unique shape before m.colour m.point one other h k

module _ (game : Tree) (one other : List Position) (is_tree : IsTree game) (are : ArePositions game one) (too : ArePositions game other) where
  same_above : (o : Option ℕ) (n : ℕ) → IfSome o (λ m. m < n) → ((k : ℕ) → k < n → get_or one k [] ≡ get_or other k []) → option_map_or (λ m. get_or one m []) o (empty_board game.shape) ≡ option_map_or (λ m. get_or other m []) o (empty_board game.shape)
  same_above None n lt same = refl
  same_above (Some m) n lt same = same m lt

  same_here : (n : ℕ) → n < node_count game → ((k : ℕ) → k < n → get_or one k [] ≡ get_or other k []) → get_or one n [] ≡ get_or other n []
  same_here n below same =
      let above : position_above game one n ≡ position_above game other n = same_above (parent_of game n) n (parent_before game is_tree n below) same in
      moved-unique game.shape (set_up_all game.shape (position_above game other n) (node_at game n).setups) (node_at game n).played (get_or one n []) (get_or other n []) (rw above at (are.steps n below)) (too.steps n below)

  same_before : (n : ℕ) → ((k : ℕ) → k < n → k < node_count game → get_or one k [] ≡ get_or other k [])
  same_before zero k lt below = absurd (omega arith)
  same_before (suc n) k lt below = same_here k below (λ j less. same_before n j (omega arith) (omega arith))

  pub positions-unique : one ≡ other
  positions-unique = ext_get_or [] one other (are.each_node ∙ sym too.each_node) (λ k lt. same_before (suc k) k (omega arith) (omega (arith, are.each_node)))
