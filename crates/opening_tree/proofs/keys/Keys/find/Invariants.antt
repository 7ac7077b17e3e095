use Rattle.std.proofs.Common.{length}
use Rattle.opening_tree.proofs.KeyTables.{IsSearched}
use Rattle.opening_tree.proofs.keys.Keys.find.Given as goal

abbrev pub invariant-loop-next : goal.invariant-loop-next
invariant-loop-next l = IsSearched l.self-inside.width l.self-inside.words.items (length l.self-inside.heads.items) (length l.self-inside.nexts.items) l.key l.next

abbrev pub decreases-loop-next : goal.decreases-loop-next
decreases-loop-next l = l.next
