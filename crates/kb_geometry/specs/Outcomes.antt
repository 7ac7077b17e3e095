-- How games ended: who is told to have won.
use Rattle.std.specs.Prelude.{◌&&◌, not, Bool, true, false}
use Rattle.kb_geometry.specs.declared.stone.Outcome.{Outcome}
use Rattle.kb_geometry.specs.declared.stone.Outcome.TheVariants as outcome

-- whether black won
abbrev pub is_black_win : Outcome → Bool
is_black_win outcome.Black = true
is_black_win outcome.White = false
is_black_win outcome.Draw = false
is_black_win outcome.Void = false
is_black_win outcome.Unknown = false
is_black_win outcome.Other = false

-- whether white won
abbrev pub is_white_win : Outcome → Bool
is_white_win outcome.Black = false
is_white_win outcome.White = true
is_white_win outcome.Draw = false
is_white_win outcome.Void = false
is_white_win outcome.Unknown = false
is_white_win outcome.Other = false

-- whether neither side is told to have won
abbrev pub is_no_win : Outcome → Bool
is_no_win ended = not (is_black_win ended) && not (is_white_win ended)
