-- What a text is: definitions of the private functions.
use Rattle.std.specs.Prelude.{◌≤◌, ℕ, List, length}
use Rattle.import_work.specs.Outcome.{HaveGames, IsFaulty}
use Rattle.import_work.specs.declared.outcome.Parsed.{Parsed}
use Rattle.import_work.specs.declared.outcome.Parsed.TheVariants as parsed

-- a text has this fault, or these games
abbrev pub IsParsed : List ℕ → Parsed → Type 0
IsParsed bytes (parsed.Refused of at) = IsFaulty bytes of at
IsParsed bytes (parsed.Games trees) = HaveGames bytes trees.items × (length trees.items ≤ 65536)
