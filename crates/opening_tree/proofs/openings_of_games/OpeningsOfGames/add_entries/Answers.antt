use Rattle.std.proofs.Common.{◌≡◌, ◌∙◌, List, arith, refl, subst, sym}
use Rattle.game_tree.specs.Position.{ArePositions}
use Rattle.game_tree.specs.Tree as trees
use Rattle.node_position.proofs.EachTree.{positions-found}
use Rattle.opening_tree.specs.declared.openings_of_games.Frame.{Frame}
use Rattle.opening_tree.specs.GoneThrough.{IsGoneTo, IsReadyForGame}
use Rattle.opening_tree.proofs.GoneSteps.{gone-end, gone-start}
use Rattle.opening_tree.proofs.openings_of_games.OpeningsOfGames.add_entries.Goals as goal

pub loop-node-init : goal.loop-node-init
loop-node-init c = record {
  stands = c.restart.ensures.stands c.deltas-deltas.result.now (c.requires.board ∙ sym c.deltas-deltas.ensures.lead.same_shape);
  here = c.restart.ensures.here;
  asked = refl;
  board = c.restart.ensures.shape ∙ c.requires.board;
  width = refl;
  gone = λ positions are es ns ready.
      subst (λ (fs : List Frame). IsGoneTo c.args.self.now.asked.depth c.args.number c.tree-tree.result.now positions 0 es ns c.args.self.now.openings.entries fs) (sym c.clear.ensures.items)
      (gone-start c.args.self.now.asked.depth c.args.number c.tree-tree.result.now positions es ns c.args.self.now.openings.entries ready);
}

pub frame_here-requires-clause-known : goal.frame_here-requires-clause-known
frame_here-requires-clause-known c =
    let (positions, are) = positions-found c.tree-tree.result.now (subst (λ (t : trees.Tree). trees.IsTree t) (sym c.tree-tree.ensures.value) c.tree-tree.ensures.tree) in
    let (es, ns, ready) = c.requires.so_far in
    let here = subst (λ (t : trees.Tree). IsReadyForGame t.shape es ns c.args.self.now.openings.entries) (sym c.tree-tree.ensures.value) ready in
    (c.loop-node.invariant.gone positions are es ns here).are_frames.each_node

pub returns-clause-gone : goal.returns-clause-gone
returns-clause-gone c positions are es ns ready =
    let same = c.tree-tree.ensures.value in
    let all : c.loop-node.node ≡ c.end_within-end.result = omega (arith, c.loop-node-test.false, c.loop-node.auto.node-end) in
    gone-end c.args.self.now.asked.depth c.args.number c.tree-tree.result.now c.args.game.now.tree same positions es ns c.loop-node.self.openings.entries c.loop-node.self.frames.items c.loop-node.node c.end_within-end.result all c.end_within-end.ensures
    (c.loop-node.invariant.gone positions (subst (λ (t : trees.Tree). ArePositions t positions) (sym same) are) es ns (subst (λ (t : trees.Tree). IsReadyForGame t.shape es ns c.args.self.now.openings.entries) (sym same) ready))
