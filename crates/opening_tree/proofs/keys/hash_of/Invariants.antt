use Rattle.std.proofs.Common.{◌≡◌, drop}
use Rattle.std.specs.List.{fold}
use Rattle.opening_tree.specs.Keys.{mixed}
use Rattle.opening_tree.proofs.keys.hash_of.Given as goal

abbrev pub invariant-loop-word : goal.invariant-loop-word
invariant-loop-word l = fold mixed l.hash (drop l.word-index l.words) ≡ fold mixed 0 l.words
