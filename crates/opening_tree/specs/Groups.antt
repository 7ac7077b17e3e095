-- The openings of the entries and next moves so far, as private functions keep them.
use Rattle.std.specs.Prelude.{◌≡◌, ℕ, ◌+◌, ◌*◌, ◌≤◌, nat_lt, nat_eq, if◌then◌else◌, List, [], ◌∷◌, map, Option, Some, None, All, Any}
use Rattle.kb_geometry.specs.declared.shape.Shape.{Shape}
use Rattle.kb_geometry.specs.declared.shape.Point.{Point}
use Rattle.kb_geometry.specs.declared.stone.Colour.{Colour}
use Rattle.kb_geometry.specs.declared.stone.Colour.TheVariants as colour
use Rattle.kb_geometry.specs.declared.stone.Outcome.{Outcome}
use Rattle.kb_geometry.specs.Capture.{Position}
use Rattle.kb_geometry.specs.Counts.{one_if}
use Rattle.kb_geometry.specs.Outcomes.{is_black_win, is_no_win, is_white_win}
use Rattle.game_tree.specs.declared.node.Move.{Move}
use Rattle.opening_tree.specs.declared.answer.NextMove.{NextMove}
use Rattle.opening_tree.specs.declared.answer.Opening.{Opening}
use Rattle.opening_tree.specs.Entries.{Entry}
use Rattle.opening_tree.specs.NextMoves.{NextAt}
use Rattle.opening_tree.specs.Openings.{entries_at, first_entries, is_same_position, nexts_at, opening_of}

-- an opening with its canonical position
pub record Grouped : Type 0 where
  pub canonical : Position
  pub opening : Opening

-- the openings of entries and next moves, with their canonical positions
abbrev pub groups_of : Shape → List Entry → List NextAt → List Grouped
groups_of shape entries nexts =
    map (λ (first : Entry). record {
      canonical = first.canonical;
      opening = opening_of shape first (entries_at first.canonical entries)
          (nexts_at first.canonical nexts);
    }) (first_entries entries)

-- ---- one entry more

-- an opening with one entry more, of a game that ended so
abbrev pub with_one : Opening → Outcome → Opening
with_one o ended = record {
  count = o.count + 1;
  black = o.black + one_if (is_black_win ended);
  white = o.white + one_if (is_white_win ended);
  other = o.other + one_if (is_no_win ended);
  game = o.game;
  node = o.node;
  nexts = o.nexts;
}

-- an opening of no entry, of which this is to be the first
abbrev pub none_yet : ℕ → ℕ → Opening
none_yet game node =
    record { count = 0; black = 0; white = 0; other = 0; game = game; node = node; nexts = [] }

-- the openings with one entry more: it is counted where its canonical position stands, or begins an
-- opening at the end
abbrev pub with_entry : List Grouped → Entry → List Grouped
with_entry [] e = record {
  canonical = e.canonical;
  opening = with_one (none_yet e.game e.node) e.outcome;
} ∷ []
with_entry (g ∷ gs) e =
    if is_same_position e.canonical g.canonical
    then record { canonical = g.canonical; opening = with_one g.opening e.outcome } ∷ gs
    else g ∷ with_entry gs e

-- ---- one next move more

-- the number of a place among those of a side: by the point's row, then by its column, and the pass
-- last
abbrev pub place_order : Option Point → ℕ
place_order None = 65536
place_order (Some p) = p.y * 256 + p.x

-- the number by which rows stand: those of black before those of white
abbrev pub play_order : Colour → Option Point → ℕ
play_order colour.Black place = place_order place
play_order colour.White place = 131072 + place_order place

-- a row with one next move more, of a game that ended so
abbrev pub row_with_one : NextMove → Outcome → NextMove
row_with_one row ended = record {
  colour = row.colour;
  point = row.point;
  count = row.count + 1;
  black = row.black + one_if (is_black_win ended);
  white = row.white + one_if (is_white_win ended);
  other = row.other + one_if (is_no_win ended);
}

-- a row of no next move
abbrev pub no_row : Move → NextMove
no_row played = record {
  colour = played.colour;
  point = played.point;
  count = 0;
  black = 0;
  white = 0;
  other = 0;
}

-- the order of a row
abbrev pub row_order : NextMove → ℕ
row_order row = play_order row.colour row.point

-- the rows with one next move more: it is counted in the row of its colour and place, or gets a row
-- there
abbrev pub with_row : List NextMove → Move → Outcome → List NextMove
with_row [] played ended = row_with_one (no_row played) ended ∷ []
with_row (r ∷ rs) played ended =
    if nat_eq (row_order r) (play_order played.colour played.point) then row_with_one r ended ∷ rs
    else if nat_lt (row_order r) (play_order played.colour played.point)
    then r ∷ with_row rs played ended
    else row_with_one (no_row played) ended ∷ r ∷ rs

-- an opening with other rows
abbrev pub with_rows : Opening → List NextMove → Opening
with_rows o rows = record {
  count = o.count;
  black = o.black;
  white = o.white;
  other = o.other;
  game = o.game;
  node = o.node;
  nexts = rows;
}

-- the openings with one next move more, from a canonical position that is there
abbrev pub with_next : List Grouped → NextAt → List Grouped
with_next [] n = []
with_next (g ∷ gs) n =
    if is_same_position n.canonical g.canonical
    then record {
      canonical = g.canonical;
      opening = with_rows g.opening (with_row g.opening.nexts n.played n.outcome);
    } ∷ gs
    else g ∷ with_next gs n

-- ---- the openings of more entries and next moves

-- a row with the next moves of another one
abbrev pub row_with : NextMove → NextMove → NextMove
row_with row more = record {
  colour = row.colour;
  point = row.point;
  count = row.count + more.count;
  black = row.black + more.black;
  white = row.white + more.white;
  other = row.other + more.other;
}

-- the rows with one row more: it is counted in the row of its order, or stands there
abbrev pub with_more_row : List NextMove → NextMove → List NextMove
with_more_row [] more = more ∷ []
with_more_row (r ∷ rs) more =
    if nat_eq (row_order r) (row_order more) then row_with r more ∷ rs
    else if nat_lt (row_order r) (row_order more) then r ∷ with_more_row rs more
    else more ∷ r ∷ rs

-- the rows with more rows
abbrev pub with_more_rows : List NextMove → List NextMove → List NextMove
with_more_rows rows [] = rows
with_more_rows rows (m ∷ more) = with_more_rows (with_more_row rows m) more

-- Rows stand in order: put in one after another, they are the same.
abbrev pub AreSorted : List NextMove → Type 0
AreSorted rows = with_more_rows [] rows ≡ rows

-- an opening with the entries and next moves of another one
abbrev pub opening_with : Opening → Opening → Opening
opening_with o more = record {
  count = o.count + more.count;
  black = o.black + more.black;
  white = o.white + more.white;
  other = o.other + more.other;
  game = o.game;
  node = o.node;
  nexts = with_more_rows o.nexts more.nexts;
}

-- the openings with one more: it is counted where its canonical position stands, or stands at the end
abbrev pub with_group : List Grouped → Grouped → List Grouped
with_group [] more = more ∷ []
with_group (g ∷ gs) more =
    if is_same_position more.canonical g.canonical
    then record {
      canonical = g.canonical;
      opening = opening_with g.opening more.opening;
    } ∷ gs
    else g ∷ with_group gs more

-- the openings with more openings
abbrev pub with_groups : List Grouped → List Grouped → List Grouped
with_groups groups [] = groups
with_groups groups (m ∷ more) = with_groups (with_group groups m) more

-- each next move was played from the canonical position of an entry
abbrev pub AreFollowing : List Entry → List NextAt → Type 0
AreFollowing entries nexts =
    All (λ (n : NextAt). Any (λ (e : Entry). e.canonical ≡ n.canonical) entries) nexts

-- ---- room in the counts

-- a row counts at most so many next moves
pub record IsRowWithin (most : ℕ) (row : NextMove) : Type 0 where
  pub count : row.count ≤ most
  pub black : row.black ≤ most
  pub white : row.white ≤ most
  pub other : row.other ≤ most

-- an opening counts at most so many entries, and its rows as many next moves
pub record IsGroupWithin (most : ℕ) (o : Opening) : Type 0 where
  pub count : o.count ≤ most
  pub black : o.black ≤ most
  pub white : o.white ≤ most
  pub other : o.other ≤ most
  pub rows : All (IsRowWithin most) o.nexts
