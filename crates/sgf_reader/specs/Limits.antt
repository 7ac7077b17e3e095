-- The limits of a text, by their numbers.
use Rattle.std.specs.Prelude.{ℕ}

-- the most bytes of a text
abbrev pub most_bytes : ℕ
most_bytes = 16777216

-- the most brackets that may be open at one time
abbrev pub most_open : ℕ
most_open = 1024

-- the most nodes of a game
abbrev pub most_nodes : ℕ
most_nodes = 65536

-- the most games of a text
abbrev pub most_games : ℕ
most_games = 65536
