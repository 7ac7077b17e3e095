-- The segment of made games in pieces: definitions of the private functions.
use Rattle.std.specs.Prelude.{◌≡◌, ◌+◌, ◌<◌, ◌≤◌, ℕ, List, All, length}
use Rattle.std.specs.List.{flat_map}
use Rattle.node_position.specs.Games.{Game}
use Rattle.import_work.specs.Made.{made_games}
use Rattle.import_work.specs.declared.making.Piece.{Piece}

-- the games of a piece
abbrev pub piece_games : Piece → List Game
piece_games piece = made_games piece.start piece.first piece.count

-- a piece has a game, but no more than a base, and the numbers of its games have 32 bits
abbrev pub IsInRange : Piece → Type 0
IsInRange piece =
    (0 < piece.count) × (piece.count ≤ 400000) × (piece.first + piece.count < 4294967296)

-- these are the made games from this number on, so many, in at most eight pieces
pub record AreCut (start first count : ℕ) (pieces : List Piece) : Type 0 where
  pub games : flat_map piece_games pieces ≡ made_games start first count
  pub few : length pieces ≤ 8
  pub each : All IsInRange pieces
