use Rattle.sgf_reader.specs.Flat.{shown_nodes}
use Rattle.sgf_reader.proofs.NestedLists.{HasAdded}
use Rattle.sgf_reader.proofs.nested.add_nodes.Given as goal

abbrev pub invariant-loop-node : goal.invariant-loop-node
invariant-loop-node l = HasAdded (shown_nodes l.fn.nodes.items l.fn.pairs.items) l.fn.game.nodes l.node-index l.nodes.items l.pairs.items
