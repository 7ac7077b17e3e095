use Rattle.std.proofs.Common.{◌≡◌, ℕ, ◌+◌, ◌++◌, List, drop, length, take}
use Rattle.node_position.specs.Games.{Game}
use Rattle.segment_store.specs.Blocks.{games_in}
use Rattle.search_engine.specs.Items.{AreItems}
use Rattle.search_engine.proofs.items.add_items.Given as goal

abbrev pub invariant-loop-numbered : goal.invariant-loop-numbered
invariant-loop-numbered l =
    (base : ℕ) (games : List Game) → AreItems base games l.fn.items.items → l.first ≡ base + length games →
    AreItems base (games ++ drop l.from (games_in (take l.numbered-index l.numbered-items))) l.items.items
