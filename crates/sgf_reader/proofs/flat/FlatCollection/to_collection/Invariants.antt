use Rattle.std.proofs.Common.{◌≡◌, take}
use Rattle.sgf_reader.proofs.flat.FlatCollection.to_collection.Given as goal

abbrev pub invariant-loop-number : goal.invariant-loop-number
invariant-loop-number l = l.games.items ≡ take l.number l.fn.self.games
