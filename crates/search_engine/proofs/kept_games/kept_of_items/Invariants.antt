use Rattle.std.proofs.Common.{◌≤◌, length, take}
use Rattle.search_engine.specs.Items.{games_of_items}
use Rattle.search_engine.specs.KeptGames.{AreKept}
use Rattle.search_engine.proofs.kept_games.kept_of_items.Given as goal

abbrev pub invariant-loop-item : goal.invariant-loop-item
invariant-loop-item l = record {
  kept : AreKept l.ready.query (games_of_items (take l.item-index l.items)) l.count;
  most : l.count ≤ length (games_of_items (take l.item-index l.items));
}
