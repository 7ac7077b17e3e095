use Rattle.std.proofs.Common.{◌≡◌, length}
use Rattle.std.specs.List.{flat_map}
use Rattle.session_core.specs.Grouping.{entry_of, group_in}
use Rattle.session_core.proofs.lists.count_groups.Given as goal

abbrev pub invariant-loop-key : goal.invariant-loop-key
invariant-loop-key l = record {
  next : (goal.iterator-loop-key).can_next l.key-iterator;
  finite : (goal.iterator-loop-key).is_finite l.key-iterator;
  counted : l.groups ≡ length (flat_map (λ p. group_in (entry_of (p.0.now, p.1.now))) l.yielded);
}
