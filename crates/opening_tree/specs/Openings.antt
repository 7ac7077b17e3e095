-- The openings of a list of games: the groups of all entries with one canonical position, each with
-- what was played next.
use Rattle.std.specs.Prelude.{◌≡◌, ℕ, ◌%◌, ◌/◌, nat_eq, nat_le, nat_lt, ◌&&◌, Bool, true, false, if◌then◌else◌, List, [], ◌∷◌, ◌++◌, length, map, filter, count_by, Option, Some, None}
use Rattle.std.specs.Cmp.Lexicographic.{pointwise}
use Rattle.std.specs.List.{list_any, range_with_len}
use Rattle.kb_geometry.specs.declared.shape.Shape.{Shape}
use Rattle.kb_geometry.specs.declared.shape.Point.{Point}
use Rattle.kb_geometry.specs.declared.stone.Cell.{Cell}
use Rattle.kb_geometry.specs.declared.stone.Colour.{Colour}
use Rattle.kb_geometry.specs.declared.stone.Colour.TheVariants as colour
use Rattle.kb_geometry.specs.Board.{cols_of, point_count}
use Rattle.kb_geometry.specs.Capture.{Position}
use Rattle.kb_geometry.specs.Outcomes.{is_black_win, is_no_win, is_white_win}
use Rattle.kb_geometry.specs.Symmetry.{point_of}
use Rattle.game_tree.specs.declared.node.Move.{Move}
use Rattle.node_position.specs.Games.{Game}
use Rattle.opening_tree.specs.declared.answer.NextMove.{NextMove}
use Rattle.opening_tree.specs.declared.answer.Opening.{Opening}
use Rattle.opening_tree.specs.Canonical.{rank_of}
use Rattle.opening_tree.specs.Entries.{Entry}
use Rattle.opening_tree.specs.Games.{AreOfGames}
use Rattle.opening_tree.specs.NextMoves.{NextAt}

-- ---- one position

-- whether two cells are one
abbrev pub is_same_cell : Cell → Cell → Bool
is_same_cell one other = nat_eq (rank_of one) (rank_of other)

-- whether two positions are one
abbrev pub is_same_position : Position → Position → Bool
is_same_position one other = pointwise is_same_cell one other

-- the entries with this canonical position
abbrev pub entries_at : Position → List Entry → List Entry
entries_at canonical entries =
    filter (λ (e : Entry). is_same_position canonical e.canonical) entries

-- the next moves from this canonical position
abbrev pub nexts_at : Position → List NextAt → List NextAt
nexts_at canonical nexts = filter (λ (n : NextAt). is_same_position canonical n.canonical) nexts

-- ---- the rows of next moves

-- the points of a board, by their numbers
abbrev pub points_of : Shape → List Point
points_of shape =
    map (λ k. point_of (k % cols_of shape) (k / cols_of shape))
    (range_with_len 0 (point_count shape))

-- what a side can play on a board: each point by its number, and then the pass
abbrev pub plays_of : Shape → Colour → List Move
plays_of shape side =
    map (λ (p : Point). record { colour = side; point = Some p }) (points_of shape)
    ++ record { colour = side; point = None } ∷ []

-- what can be played on a board, in the order of rows: black before white
abbrev pub plays_on : Shape → List Move
plays_on shape = plays_of shape colour.Black ++ plays_of shape colour.White

-- whether two colours are one
abbrev pub is_same_colour : Colour → Colour → Bool
is_same_colour colour.Black colour.Black = true
is_same_colour colour.White colour.White = true
is_same_colour colour.Black colour.White = false
is_same_colour colour.White colour.Black = false

-- whether two places are one: one point, or passes both
abbrev pub is_same_place : Option Point → Option Point → Bool
is_same_place None None = true
is_same_place (Some p) (Some q) = nat_eq p.x q.x && nat_eq p.y q.y
is_same_place None (Some q) = false
is_same_place (Some p) None = false

-- whether two moves are of one colour and at one place
abbrev pub is_same_play : Move → Move → Bool
is_same_play one other =
    is_same_colour one.colour other.colour && is_same_place one.point other.point

-- those of some next moves that play this
abbrev pub nexts_by : Move → List NextAt → List NextAt
nexts_by play nexts = filter (λ (n : NextAt). is_same_play play n.played) nexts

-- the row of a move, of which these are the next moves
abbrev pub row_of : Move → List NextAt → NextMove
row_of play nexts = record {
  colour = play.colour;
  point = play.point;
  count = length nexts;
  black = count_by (λ (n : NextAt). is_black_win n.outcome) nexts;
  white = count_by (λ (n : NextAt). is_white_win n.outcome) nexts;
  other = count_by (λ (n : NextAt). is_no_win n.outcome) nexts;
}

-- The rows of the next moves from one position: one for each colour and place that is played. Black
-- comes first, then the points by their numbers, and the pass of a side behind its points.
abbrev pub rows_of : Shape → List NextAt → List NextMove
rows_of shape nexts =
    filter (λ (row : NextMove). nat_lt 0 row.count)
    (map (λ (play : Move). row_of play (nexts_by play nexts)) (plays_on shape))

-- ---- the openings

-- those of some entries before which, behind others, no entry has their canonical position
abbrev pub first_entries_behind : List Entry → List Entry → List Entry
first_entries_behind before [] = []
first_entries_behind before (e ∷ es) =
    if list_any (λ (b : Entry). is_same_position e.canonical b.canonical) before
    then first_entries_behind (before ++ e ∷ []) es
    else e ∷ first_entries_behind (before ++ e ∷ []) es

-- the first entry with each canonical position, in order of the entries
abbrev pub first_entries : List Entry → List Entry
first_entries entries = first_entries_behind [] entries

-- the opening whose entries and next moves are these, and whose first entry is this one
abbrev pub opening_of : Shape → Entry → List Entry → List NextAt → Opening
opening_of shape first entries nexts = record {
  count = length entries;
  black = count_by (λ (e : Entry). is_black_win e.outcome) entries;
  white = count_by (λ (e : Entry). is_white_win e.outcome) entries;
  other = count_by (λ (e : Entry). is_no_win e.outcome) entries;
  game = first.game;
  node = first.node;
  nexts = rows_of shape nexts;
}

-- The openings of these entries and next moves, by their first entries: all entries with one
-- canonical position are one opening, and all next moves from it are its next moves.
abbrev pub all_openings_of : Shape → List Entry → List NextAt → List Opening
all_openings_of shape entries nexts =
    map (λ (first : Entry). opening_of shape first (entries_at first.canonical entries)
    (nexts_at first.canonical nexts)) (first_entries entries)

-- the openings with at least so many entries
abbrev pub openings_of : Shape → ℕ → List Entry → List NextAt → List Opening
openings_of shape least entries nexts =
    filter (λ (o : Opening). nat_le least o.count) (all_openings_of shape entries nexts)

-- The openings of games on boards of this shape, down to a depth and with at least so many entries.
-- The games are numbered from 0.
pub record IsOpenings (shape : Shape) (depth least : ℕ) (games : List Game)
    (openings : List Opening) : Type 0 where
  pub entries : List Entry
  pub nexts : List NextAt
  pub are_all : AreOfGames 0 shape depth games entries nexts
  pub are_groups : openings ≡ openings_of shape least entries nexts
