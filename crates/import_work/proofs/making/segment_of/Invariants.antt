use Rattle.std.proofs.Common.{◌≡◌, ◌≤◌, ◌-◌}
use Rattle.import_work.specs.Made.{made_games}
use Rattle.import_work.proofs.making.segment_of.Given as goal

abbrev pub invariant-loop-number : goal.invariant-loop-number
invariant-loop-number l = record {
  begun : l.piece.first ≤ l.number;
  made : l.games ≡ made_games l.piece.start l.piece.first (l.number - l.piece.first);
}
