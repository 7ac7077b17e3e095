use Rattle.std.proofs.Common.{ℕ, ◌≡◌, ◌%◌, ◌+◌, List, length, All, ap, ◌∙◌, subst, sym, arith}
use Rattle.std.proofs.lemmas.Result.{IfOk-weaker}
use Rattle.game_tree.specs.declared.node.Move.{Move}
use Rattle.game_tree.specs.Tree.{Tree, node_count}
use Rattle.made_games.specs.Made.{first_number, made_moves, made_tree}
use Rattle.game_tree.proofs.Lines.{LiesOn}
use Rattle.made_games.proofs.MadeMoves.{made-nodes, moves-length, moves-on_board, shape-is, tree-is}
use Rattle.made_games.proofs.tree.made_tree.Goals as goal

pub tree_of_moves-requires-clause-few : goal.tree_of_moves-requires-clause-few
tree_of_moves-requires-clause-few c =
    let items : length c.as_slice.result.now ≡ length c.in_ok-moves.moves.items = ap length c.as_slice.ensures.value in
    let made : length c.in_ok-moves.moves.items ≡ length (made_moves ((c.from.result + c.from-2.result) % 2147483648) 200) = ap length c.in_ok-moves.ensures in
    omega (arith, items, made, moves-length ((c.from.result + c.from-2.result) % 2147483648) 200)

pub tree_of_moves-requires-clause-on_board : goal.tree_of_moves-requires-clause-on_board
tree_of_moves-requires-clause-on_board c =
    subst (λ (ms : List Move). All (LiesOn c.standard.result) ms) (sym (c.as_slice.ensures.value ∙ c.in_ok-moves.ensures))
    (moves-on_board c.standard.result c.standard.ensures.cols c.standard.ensures.rows _ 200)

-- the first number is that of the game
first-is : (a b start game : ℕ) → a ≡ start → b ≡ game → (a + b) % 2147483648 ≡ first_number start game
first-is a b start game e f = cc (e, f)

pub returns-clause-value : goal.returns-clause-value
returns-clause-value c =
    IfOk-weaker c.tree_of_moves.result _ _ (λ (tree : Tree) is.
    tree-is c.args.start c.args.game ((c.from.result + c.from-2.result) % 2147483648) c.standard.result c.result_text.result.now c.as_slice.result.now tree
    (first-is c.from.result c.from-2.result c.args.start c.args.game c.from.ensures c.from-2.ensures)
    (shape-is c.standard.result c.standard.ensures.cols c.standard.ensures.rows) c.result_text.ensures.value (c.as_slice.ensures.value ∙ c.in_ok-moves.ensures) is) c.tree_of_moves.ensures

pub returns-clause-nodes : goal.returns-clause-nodes
returns-clause-nodes c =
    IfOk-weaker c.tree_of_moves.result _ _ (λ (tree : Tree) (is : tree ≡ made_tree c.args.start c.args.game). ap node_count is ∙ made-nodes c.args.start c.args.game) (returns-clause-value c)
