use Rattle.opening_tree.proofs.GroupBounds.{groups-within}
use Rattle.opening_tree.proofs.GroupsGrow.{groups-entry, groups-next}
use Rattle.opening_tree.proofs.GroupsJoin.{groups-join}
use Rattle.opening_tree.proofs.NextsFollow.{none_played}
use Rattle.opening_tree.proofs.PlaysInOrder.{plays-one, plays-order}
use Rattle.opening_tree.proofs.groups.openings_grow_one_by_one.Goals as goal

pub returns-clause-entry : goal.returns-clause-entry
returns-clause-entry c shape entries nexts e follow = groups-entry shape entries nexts e (none_played e.canonical entries nexts follow)

pub returns-clause-next : goal.returns-clause-next
returns-clause-next c shape entries nexts n on = groups-next shape (plays-order shape) entries nexts n (plays-one shape n.played on)

pub returns-clause-join : goal.returns-clause-join
returns-clause-join c = groups-join

pub returns-clause-bounds : goal.returns-clause-bounds
returns-clause-bounds c = groups-within
