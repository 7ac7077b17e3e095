use Rattle.sgf_reader.proofs.NestedLists.{HasStored}
use Rattle.sgf_reader.proofs.flat.FlatCollection.of.Given as goal

abbrev pub invariant-loop-game : goal.invariant-loop-game
invariant-loop-game l = HasStored l.fn.collection.games l.game-index l.pairs.items l.nodes.items l.ends.items
