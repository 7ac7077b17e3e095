use Rattle.std.proofs.Common.{None, arith}
use Rattle.sgf_reader.proofs.FlatLists.{game-has, game-node, game-order}
use Rattle.sgf_reader.proofs.flat.FlatGame.node.Goals as goal

pub offset_bounds-nodes-number : goal.offset_bounds-nodes-number
offset_bounds-nodes-number c =
    let here = game-has c.self.inside.nodes.now c.self.inside.pairs.now c.args.self.now c.self.view_is c.args.number c.requires in
    omega (arith, here, c.self.told)

pub bounds-nodes-number : goal.bounds-nodes-number
bounds-nodes-number c = game-has c.self.inside.nodes.now c.self.inside.pairs.now c.args.self.now c.self.view_is c.args.number c.requires

pub overflow_add-number : goal.overflow_add-number
overflow_add-number c =
    let here = game-has c.self.inside.nodes.now c.self.inside.pairs.now c.args.self.now c.self.view_is c.args.number c.requires in
    omega (arith, here, c.self.told)

pub part-requires-clause-order : goal.part-requires-clause-order
part-requires-clause-order c =
    let here = game-has c.self.inside.nodes.now c.self.inside.pairs.now c.args.self.now c.self.view_is c.args.number c.requires in
    rw c.start_of-values_end.ensures ((game-order c.self.inside.nodes.now c.self.inside.pairs.now c.args.self.now c.self.view_is c.args.number _ c.self.invariant here).0)

pub part-requires-clause-within : goal.part-requires-clause-within
part-requires-clause-within c =
    let here = game-has c.self.inside.nodes.now c.self.inside.pairs.now c.args.self.now c.self.view_is c.args.number c.requires in
    rw c.start_of-values_end.ensures ((game-order c.self.inside.nodes.now c.self.inside.pairs.now c.args.self.now c.self.view_is c.args.number (record { parent = None; values_from = 0 }) c.self.invariant here).1)

pub returns : goal.returns
returns c =
    let here = game-has c.self.inside.nodes.now c.self.inside.pairs.now c.args.self.now c.self.view_is c.args.number c.requires in
    game-node c.self.inside.nodes.now c.self.inside.pairs.now c.args.self.now c.self.view_is c.args.number _ _ _ _ here c.start_of-values_end.ensures c.part.ensures
