use Rattle.corner_index.proofs.JoinedEntries.{IsJoinedIn}
use Rattle.corner_index.proofs.entry_lists.joined.Given as goal

abbrev pub invariant-loop-at : goal.invariant-loop-at
invariant-loop-at l = IsJoinedIn l.a.keys.items l.a.games.items l.b.keys.items l.b.games.items l.first l.i l.j l.at l.count l.keys.items l.games.items
