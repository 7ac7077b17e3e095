use Rattle.std.proofs.Common.{◌≤◌, ◌-◌, length, take, All}
use Rattle.info_filter.specs.Day.{IsDateByte}
use Rattle.info_filter.proofs.day.date_end.Given as goal

abbrev pub invariant-loop-end : goal.invariant-loop-end
invariant-loop-end l = record {
  within : l.end ≤ length l.text;
  made : All IsDateByte (take l.end l.text);
}

abbrev pub decreases-loop-end : goal.decreases-loop-end
decreases-loop-end l = length l.text - l.end
