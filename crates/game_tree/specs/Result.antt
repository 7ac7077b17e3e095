-- The class of a game's result, by its text.
use Rattle.std.specs.Prelude.{ℕ, List, nat_eq, ◌||◌, codes, if◌then◌else◌}
use Rattle.std.specs.List.{starts_with}
use Rattle.std.specs.Str.{bytes_eq}
use Rattle.kb_geometry.specs.declared.stone.Outcome.{Outcome}
use Rattle.kb_geometry.specs.declared.stone.Outcome.TheVariants as outcome

-- the class of a result's text; every text that is none of the others is Other, the empty one too
abbrev pub outcome_of : List ℕ → Outcome
outcome_of text =
    if starts_with nat_eq text (codes "B+") then outcome.Black
    else if starts_with nat_eq text (codes "W+") then outcome.White
    else if bytes_eq text (codes "0") || bytes_eq text (codes "Draw") then outcome.Draw
    else if bytes_eq text (codes "Void") then outcome.Void
    else if bytes_eq text (codes "?") then outcome.Unknown
    else outcome.Other
