use Rattle.std.proofs.Common.{◌≡◌, ◌++◌, map, take}
use Rattle.std.specs.Arc.{arc_value}
use Rattle.import_work.proofs.pieces.share_all.Given as goal

abbrev pub invariant-loop-game : goal.invariant-loop-game
invariant-loop-game l = l.games ≡ l.fn.games ++ map arc_value (take l.game-index l.own)
