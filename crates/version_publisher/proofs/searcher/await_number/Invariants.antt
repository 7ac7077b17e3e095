use Rattle.std.proofs.Common.{◌≡◌}
use mathlib.Core.List.{IsPrefix}
use Rattle.left_right.specs.Sides.{view}
use Rattle.version_publisher.proofs.searcher.await_number.Given as goal

abbrev pub invariant-loop : goal.invariant-loop
invariant-loop g l =
    (goal.iterator-loop g).can_next l.iterator' × (goal.iterator-loop g).is_finite l.iterator' × ((view l.reader.place).openings ≡ (view l.initial.reader.place).openings) × IsPrefix (view l.initial.reader.place).read (view l.reader.place).read
