use Rattle.std.proofs.Common.{◌∙◌, [], ap, arith, length-append, map}
use Rattle.std.specs.Arc.{arc_value}
use Rattle.std.proofs.lemmas.List.{map_push}
use Rattle.std.proofs.lemmas.Iterator.Adapters.{YieldsList-from_vec}
use Rattle.std.proofs.lemmas.Iterator.Consumers.{YieldsList-turn}
use Rattle.std.proofs.lemmas.List.Sums.{sum_by_push}
use Rattle.game_tree.specs.Tree.{node_count}
use Rattle.import_work.proofs.FileLemmas.{added_more, game_named}
use Rattle.import_work.proofs.found.games_found.Goals as goal

pub loop-tree-preserved : goal.loop-tree-preserved
loop-tree-preserved c = record {
  placed = rw length-append (omega (arith, c.loop-tree.invariant.placed));
  counted =
      let one = sum_by_push node_count c.loop-tree.yielded c.in-Some.tree in
      omega (arith, one, c.loop-tree.invariant.counted, c.node_count.ensures.value, c.from.ensures);
  few = rw length-append (omega (arith, c.loop-tree.invariant.few, c.node_count.ensures.most, c.from.ensures));
  added = added_more c.args.name.now c.loop-tree.yielded [] (map arc_value c.loop-tree.games.items) (map arc_value c.push.new.self.items) _ c.in-Some.tree c.loop-tree.invariant.added
      (ap (map arc_value) c.in_ok-push.ensures.items ∙ map_push arc_value c.loop-tree.games.items _)
      (c.in_ok-new.ensures.ok ∙ c.in_ok-game.ensures ∙ game_named c.in-Some.tree (c.in_ok-clone.ensures.cases ∙ c.in_ok-file.ensures.ok) c.loop-tree.invariant.placed);
}

pub overflow_add-place : goal.overflow_add-place
overflow_add-place c =
    let h = c.into_iter-tree-iterator.ensures.into_iter_gives in
    let turn = YieldsList-turn (YieldsList-from_vec c.args.trees.items h.0 (omega (arith, h.1))) c.loop-tree.yielded c.loop-tree.tree-iterator c.loop-tree.yielded_by c.next.result c.next.new.self c.in-Some.tree c.in-Some.is c.next.ensures.steps in
    omega (arith, turn.0, c.requires, c.loop-tree.invariant.placed)
