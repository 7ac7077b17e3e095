use Rattle.std.proofs.Common.{◌∙◌, ℕ, ap, subst, sym}
use Rattle.kb_geometry.specs.declared.shape.Shape.{Shape}
use Rattle.kb_geometry.specs.Capture.{Position}
use Rattle.game_tree.specs.declared.node.Move.{Move}
use Rattle.game_tree.specs.Tree as trees
use Rattle.opening_tree.specs.Least.{AreBringing}
use Rattle.opening_tree.specs.NextMoves.{IsNextAt, IsPlaceInFrame}
use Rattle.opening_tree.proofs.GoneSteps.{next-bringing, next-ready, nexts-at, nexts-none}
use Rattle.opening_tree.proofs.openings_of_games.OpeningsOfGames.add_next.Goals as goal

pub place_in_frame-point-requires-clause-some : goal.place_in_frame-point-requires-clause-some
place_in_frame-point-requires-clause-some c =
    let (positions, es, ns, are, to) = c.requires.so_far in
    let game = c.args.game.now.tree in
    let is_tree = c.tree-tree.ensures.tree in
    let shape = c.shape-shape.ensures.value ∙ ap (λ (t : trees.Tree). t.shape) c.tree-tree.ensures.value in
    let next = subst (λ (t : trees.Tree). IsNextAt c.args.self.now.asked.depth t c.args.n c.in-Some.next.parent c.in-Some.next.played) c.tree-tree.ensures.value c.in-Some.ensures.some in
    let (position, canonical, bringing) = next-bringing c.args.self.now.asked.depth game positions c.args.n es ns c.args.self.now.openings.entries c.args.self.now.frames.items to is_tree are c.requires.in_range
    c.in-Some.next.parent c.in-Some.next.played next c.index-frame.result.now c.index-frame.ensures in
    (position, canonical, subst (λ (s : Shape). AreBringing s position canonical c.index-frame.result.now.symmetries) (sym shape) bringing)

pub add_next-requires : goal.add_next-requires
add_next-requires c =
    let (positions, es, ns, are, to) = c.requires.so_far in
    let is_tree = c.tree-tree.ensures.tree in
    let next = subst (λ (t : trees.Tree). IsNextAt c.args.self.now.asked.depth t c.args.n c.in-Some.next.parent c.in-Some.next.played) c.tree-tree.ensures.value c.in-Some.ensures.some in
    next-ready c.args.self.now.asked.depth c.args.game.now.tree positions c.args.n es ns c.args.self.now.openings.entries c.args.self.now.frames.items to is_tree are c.requires.in_range
    c.in-Some.next.parent c.in-Some.next.played next c.index-frame.result.now c.index-frame.ensures

pub returns-in_default-clause-gone : goal.returns-in_default-clause-gone
returns-in_default-clause-gone c positions are es ns to =
    nexts-none c.args.self.now.asked.depth c.args.game.now.tree positions c.args.n es ns c.args.self.now.openings.entries c.args.self.now.frames.items to
    (subst (λ (t : trees.Tree). (parent : ℕ) (played : Move) → ¬ IsNextAt c.args.self.now.asked.depth t c.args.n parent played) c.tree-tree.ensures.value c.in_default.ensures.none)

pub returns-clause-gone : goal.returns-clause-gone
returns-clause-gone c positions are es ns to =
    let is_tree = c.tree-tree.ensures.tree in
    let shape = c.shape-shape.ensures.value ∙ ap (λ (t : trees.Tree). t.shape) c.tree-tree.ensures.value in
    let next = subst (λ (t : trees.Tree). IsNextAt c.args.self.now.asked.depth t c.args.n c.in-Some.next.parent c.in-Some.next.played) c.tree-tree.ensures.value c.in-Some.ensures.some in
    nexts-at c.args.self.now.asked.depth c.args.game.now.tree positions c.args.n es ns c.args.self.now.openings.entries c.args.self.now.frames.items to is_tree are c.requires.in_range
    c.in-Some.next.parent c.in-Some.next.played next c.index-frame.result.now c.index-frame.ensures c.place_in_frame-point.result
    (subst (λ (s : Shape). (position canonical : Position) → AreBringing s position canonical c.index-frame.result.now.symmetries → IsPlaceInFrame s position canonical c.in-Some.next.played.point c.place_in_frame-point.result) shape c.place_in_frame-point.ensures)
    c.outcome.result c.outcome.ensures c.add_next.new.openings.entries c.in_ok-add_next.ensures.added
