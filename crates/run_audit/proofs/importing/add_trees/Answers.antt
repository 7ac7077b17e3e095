use Rattle.std.proofs.Common.{arith, length-append, refl}
use Rattle.std.proofs.lemmas.Iterator.Adapters.{YieldsList-from_vec}
use Rattle.std.proofs.lemmas.Iterator.Consumers.{YieldsList-so_far, YieldsList-turn}
use Rattle.std.proofs.lemmas.List.{map-id}
use Rattle.import_work.proofs.FileLemmas.{added_more, game_named}
use Rattle.run_audit.proofs.FileSteps.{add-room, counted-next}
use Rattle.run_audit.proofs.importing.add_trees.Goals as goal

pub add-requires : goal.add-requires
add-requires c =
    let h = c.into_iter-tree-iterator.ensures.into_iter_gives in
    let gives = YieldsList-from_vec c.args.trees.items h.0 (omega (arith, h.1)) in
    let turn = YieldsList-turn gives c.loop-tree.yielded c.loop-tree.tree-iterator c.loop-tree.yielded_by c.next.result c.next.new.self c.in-Some.tree c.in-Some.is c.next.ensures.steps in
    let so_far = YieldsList-so_far gives c.loop-tree.yielded c.loop-tree.tree-iterator c.loop-tree.yielded_by in
    add-room c.args.counts.now c.args.trees.items c.loop-tree.yielded c.in-Some.tree c.args.games.now c.loop-tree.games c.args.name.now c.requires.few c.requires.room (rw (map-id c.loop-tree.yielded) at so_far) turn.0 turn.1 c.loop-tree.invariant.added

pub loop-tree-preserved : goal.loop-tree-preserved
loop-tree-preserved c = record {
  placed = rw length-append (omega (arith, c.loop-tree.invariant.placed));
  added =
      added_more c.args.name.now c.loop-tree.yielded c.args.games.now c.loop-tree.games c.add.new.self _ c.in-Some.tree c.loop-tree.invariant.added c.in_ok-add.ensures
      (game_named c.in-Some.tree refl c.loop-tree.invariant.placed);
  counted = counted-next c.args.counts.now c.loop-tree.counts c.loop-tree.yielded c.in-Some.tree c.node_count.result c.loop-tree.invariant.counted c.node_count.ensures.value;
}
