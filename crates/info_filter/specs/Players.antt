-- The table of the players of a list of games.
use Rattle.std.specs.Prelude.{◌≡◌, ◌≢◌, ℕ, ◌≤◌, ◌&&◌, Bool, List, [], ◌∷◌, ◌++◌, All, AllPairs, Any, count_by}
use Rattle.std.specs.List.{flat_map}
use Rattle.std.specs.Str.{bytes_eq}
use Rattle.kb_geometry.specs.Outcomes.{is_black_win, is_white_win}
use Rattle.game_tree.specs.Information.{Information}
use Rattle.game_tree.specs.Result.{outcome_of}

-- a side of a game: the name of its player, and whether it won or lost
pub record Side : Type 0 where
  pub name : List ℕ
  pub won : Bool
  pub lost : Bool

-- the side of the black stones
abbrev pub black_side : Information → Side
black_side info = record {
  name = info.black;
  won = is_black_win (outcome_of info.outcome_text);
  lost = is_white_win (outcome_of info.outcome_text);
}

-- the side of the white stones
abbrev pub white_side : Information → Side
white_side info = record {
  name = info.white;
  won = is_white_win (outcome_of info.outcome_text);
  lost = is_black_win (outcome_of info.outcome_text);
}

-- the sides of the games in order, each game's black side before its white one
abbrev pub sides_of : List Information → List Side
sides_of games = flat_map (λ (info : Information). black_side info ∷ white_side info ∷ []) games

-- a row of the table: a name, and of how many sides it is, how many of these won and lost
pub record TableRow : Type 0 where
  pub name : List ℕ
  pub games : ℕ
  pub wins : ℕ
  pub losses : ℕ

-- whether the side is of this name
abbrev pub is_side_of : List ℕ → Side → Bool
is_side_of name side = bytes_eq side.name name

-- The row tells of a player: of a name that isn't empty, and of all sides of that name. A name that
-- plays both sides of a game has two of them.
pub record IsToldOfPlayer (sides : List Side) (row : TableRow) : Type 0 where
  pub named : row.name ≢ []
  pub some : 1 ≤ row.games
  pub games : row.games ≡ count_by (is_side_of row.name) sides
  pub wins : row.wins ≡ count_by (λ (side : Side). is_side_of row.name side && side.won) sides
  pub losses : row.losses ≡ count_by (λ (side : Side). is_side_of row.name side && side.lost) sides

-- One name is seen before another: it is among some first sides, and the other isn't.
pub record IsSeenBefore (sides : List Side) (one other : List ℕ) : Type 0 where
  pub seen : List Side
  pub rest : List Side
  pub first : sides ≡ seen ++ rest
  pub there : Any (λ (side : Side). side.name ≡ one) seen
  pub absent : All (λ (side : Side). side.name ≢ other) seen

-- there is a row of this name
abbrev pub HasRowOf : List ℕ → List TableRow → Type 0
HasRowOf name rows = Any (λ (row : TableRow). row.name ≡ name) rows

-- Each name of the sides that isn't empty has a row, in the order in which the names are seen
-- first. So no name has two.
pub record ArePlayerRows (sides : List Side) (rows : List TableRow) : Type 0 where
  pub told : All (IsToldOfPlayer sides) rows
  pub complete : All (λ (side : Side). side.name ≢ [] → HasRowOf side.name rows) sides
  pub ordered : AllPairs (λ (a b : TableRow). IsSeenBefore sides a.name b.name) rows

-- the players' table of a list of games
abbrev pub IsPlayersTable : List Information → List TableRow → Type 0
IsPlayersTable games rows = ArePlayerRows (sides_of games) rows
