use Rattle.std.proofs.Common.{◌≡◌, map, take}
use Rattle.std.specs.Arc.{arc_value}
use Rattle.version_publisher.specs.Contents.{items_in}
use Rattle.run_audit.proofs.merging.merged_parts.Given as goal

-- the games of the parts so far
abbrev pub invariant-loop-part : goal.invariant-loop-part
invariant-loop-part l = items_in (map arc_value l.merged.items) ≡ items_in (map arc_value (take l.part-index l.parts))
