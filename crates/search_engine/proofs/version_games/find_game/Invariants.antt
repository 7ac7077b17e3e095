use Rattle.std.proofs.Common.{◌≡◌, ◌≤◌, length, map, take}
use Rattle.std.specs.Arc.{arc_value}
use Rattle.version_publisher.specs.Contents.{items_in}
use Rattle.search_engine.proofs.version_games.find_game.Given as goal

abbrev pub invariant-loop-part : goal.invariant-loop-part
invariant-loop-part l = record {
  behind : l.first ≡ length (items_in (map arc_value (take l.part-index l.part-items)));
  low : l.first ≤ l.number;
}
