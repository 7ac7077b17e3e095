use Rattle.std.proofs.Common.{◌+◌, ap, arith}
use Rattle.game_tree.specs.Tree.{node_count}
use Rattle.serial_run.proofs.CountLemmas.{nodes-more, nodes-most}
use Rattle.serial_run.proofs.counts.node_count.Goals as goal

pub overflow_add-nodes : goal.overflow_add-nodes
overflow_add-nodes c =
    let games = c.args.games.now in
    let i = c.loop-game.game-index in
    omega (arith, c.requires, c.loop-game.invariant, c.node_count-nodes.ensures.value, ap node_count c.tree.ensures.value, nodes-more (λ g. g.now) games i c.game-item.result c.loop-game-test.true c.game-item.is, nodes-most (λ g. g.now) games (i + 1))

pub loop-game-preserved : goal.loop-game-preserved
loop-game-preserved c =
    let games = c.args.games.now in
    let i = c.loop-game.game-index in
    omega (arith, c.loop-game.invariant, c.node_count-nodes.ensures.value, ap node_count c.tree.ensures.value, nodes-more (λ g. g.now) games i c.game-item.result c.loop-game-test.true c.game-item.is)
