use Rattle.std.proofs.Common.{◌≡◌, take}
use Rattle.session_core.specs.Grouping.{entries_of, keys_with}
use Rattle.session_core.proofs.Groups.{all_entries}
use Rattle.session_core.proofs.doubles.games_by_key.Given as goal

abbrev pub invariant-loop-number : goal.invariant-loop-number
invariant-loop-number l = entries_of l.by_key.entries ≡ all_entries (keys_with (take l.number l.games) (take l.number l.forms))
