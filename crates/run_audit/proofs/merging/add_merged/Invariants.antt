use Rattle.std.proofs.Common.{◌≡◌, ◌++◌, length, map}
use Rattle.std.specs.Arc.{arc_value}
use Rattle.version_publisher.specs.Contents.{items_in}
use Rattle.run_audit.proofs.merging.add_merged.Given as goal

-- the games of the parts and of the last one stay
abbrev pub invariant-loop-before : goal.invariant-loop-before
invariant-loop-before l = items_in (map arc_value l.parts.items) ++ arc_value l.last ≡ items_in (map arc_value l.fn.parts.items) ++ arc_value l.fn.part

abbrev pub decreases-loop-before : goal.decreases-loop-before
decreases-loop-before l = length l.parts.items
