use Rattle.std.proofs.Common.{◌≡◌, length, map, take}
use Rattle.std.specs.Arc.{arc_value}
use Rattle.version_publisher.specs.Contents.{items_in}
use Rattle.search_engine.specs.Items.{AreItems}
use Rattle.search_engine.proofs.items.items_of_version.Given as goal

abbrev pub invariant-loop-part : goal.invariant-loop-part
invariant-loop-part l = record {
  counted : l.first ≡ length (items_in (map arc_value (take l.part-index l.part-items)));
  items : AreItems 0 (items_in (map arc_value (take l.part-index l.part-items))) l.items.items;
}
