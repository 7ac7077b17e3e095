-- What is found in a file before it is known whether the base has room for it: definitions of
-- the private functions.
use Rattle.std.specs.Prelude.{◌≡◌, ◌≤◌, ℕ, List, length, map, Option, Some, None}
use Rattle.std.specs.Arc.{arc_value}
use Rattle.game_tree.specs.Tree.{Tree}
use Rattle.import_work.specs.Course.{games_from}
use Rattle.import_work.specs.Outcome.{HaveGames, IsFaulty, nodes_of_trees}
use Rattle.import_work.specs.declared.found.Found.{Found}
use Rattle.import_work.specs.declared.found.Found.TheVariants as found

-- these games were found in a file of this name
abbrev pub AreGamesOfFile : List ℕ → List Tree → Found → Type 0
AreGamesOfFile name trees found.Unread = ⊥
AreGamesOfFile name trees (found.Refused of at) = ⊥
AreGamesOfFile name trees (found.Games games nodes) =
    (map arc_value games.items ≡ games_from name 0 trees)
    × (nodes ≡ nodes_of_trees trees) × (nodes ≤ 4294967296)

-- this was found in a file of this name with these bytes
abbrev pub IsFoundInBytes : List ℕ → List ℕ → Found → Type 0
IsFoundInBytes name bytes found.Unread = ⊥
IsFoundInBytes name bytes (found.Refused of at) = IsFaulty bytes of at
IsFoundInBytes name bytes (found.Games games nodes) =
    (trees : List Tree) × HaveGames bytes trees × (length trees ≤ 65536)
    × (map arc_value games.items ≡ games_from name 0 trees)
    × (nodes ≡ nodes_of_trees trees) × (nodes ≤ 4294967296)

-- this was found in a file of this name with these bytes, or in one that was not read
abbrev pub IsFoundInFile : List ℕ → Option (List ℕ) → Found → Type 0
IsFoundInFile name None what = what ≡ found.Unread
IsFoundInFile name (Some bytes) what = IsFoundInBytes name bytes what
