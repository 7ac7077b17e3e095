use Rattle.std.proofs.Common.{◌<◌, ℕ, All, length, map, take}
use Rattle.session_core.specs.Listing.{found_at, borrowed_games}
use Rattle.session_core.specs.Signed.{AreGamesFound}
use Rattle.session_core.proofs.lists.found_by.Given as goal

abbrev pub invariant-loop-number : goal.invariant-loop-number
invariant-loop-number l = record {
  are : AreGamesFound l.pattern.bytes (borrowed_games (take l.number l.games)) (map (found_at l.forms) l.found.items);
  in_range : All (λ (number : ℕ). number < length l.forms) l.found.items;
}
