use Rattle.std.proofs.Common.{◌≡◌, ◌+◌, ◌<◌, length, sym, ◌∙◌, ap, subst, arith, get_or, Some, None}
use Rattle.kb_geometry.specs.declared.stone.Colour.TheVariants as colour
use Rattle.game_tree.specs.declared.node.Move.{Move}
use Rattle.game_tree.specs.Built.{Built, IsGrown, tree_of, tree_so_far, with_node}
use Rattle.game_tree.specs.Tree.{branchings_to}
use Rattle.game_tree.proofs.Lines.{line-depth, line-length, line-more, line-next, line_built}
use Rattle.game_tree.proofs.line.tree_of_moves.Goals as goal

-- what an index past the end reads
abbrev pass_of_black : Move
pass_of_black = record { colour = colour.Black; point = None }

pub add_node-requires-in-loop-number-clause-room :
    goal.add_node-requires-in-loop-number-clause-room
add_node-requires-in-loop-number-clause-room c =
    let many : length c.loop-number.builder.nodes ≡ c.loop-number.number + 1 =
    ap (λ (b : Built). length b.nodes) c.loop-number.invariant.built ∙ line-length c.args.shape c.args.moves.now c.loop-number.number in
    omega (arith, many, c.requires.few, c.loop-number-test.true)

pub add_node-requires-in-loop-number-clause-parent :
    goal.add_node-requires-in-loop-number-clause-parent
add_node-requires-in-loop-number-clause-parent c =
    rw c.loop-number.invariant.built (line-next c.args.shape c.args.moves.now c.loop-number.number)

pub loop-number-preserved : goal.loop-number-preserved
loop-number-preserved c = record {
  built = c.in_ok-add_node-2.ensures.ok
      ∙ ap (λ (b : Built). with_node b (Some c.loop-number.number) (Some (get_or c.args.moves.now c.loop-number.number pass_of_black))) c.loop-number.invariant.built
      ∙ line-more c.args.shape c.args.moves.now c.loop-number.number pass_of_black c.loop-number-test.true;
  most = omega (arith, c.loop-number-test.true);
}

pub finish-requires-clause-depth : goal.finish-requires-clause-depth
finish-requires-clause-depth c = λ k inside.
    let built = c.loop-number.invariant.built in
    let grown : IsGrown (tree_so_far (line_built c.args.shape c.args.moves.now c.loop-number.number)) =
    subst (λ (b : Built). IsGrown (tree_so_far b)) built c.is_grown.ensures.grown in
    subst (λ (b : Built). branchings_to (tree_of b c.in_ok-info.info) k < 1024) (sym built)
    (line-depth c.args.shape c.args.moves.now c.loop-number.number c.in_ok-info.info grown k)
