-- The table of the continuations of a list of hits: how many hits go on so, and how their games
-- ended.
use Rattle.std.specs.Prelude.{◌≡◌, ℕ, ◌<◌, ◌≤◌, ◌⊎◌, ◌==◌, ◌&&◌, not, Bool, true, false, List, length, filter, count_by, IfSome, All, AllPairs, Any}
use Rattle.std.specs.Option.{option_map_or}
use Rattle.kb_geometry.specs.declared.stone.Colour.{Colour}
use Rattle.kb_geometry.specs.declared.stone.Colour.TheVariants as colour
use Rattle.kb_geometry.specs.declared.stone.Outcome.{Outcome}
use Rattle.kb_geometry.specs.declared.stone.Outcome.TheVariants as outcome
use Rattle.kb_geometry.specs.Symmetry.{number_of_label}
use Rattle.pattern_images.specs.declared.hit.Hit.{Hit}
use Rattle.pattern_images.specs.declared.hit.Next.{Next}
use Rattle.continuation_table.specs.declared.tally.Tally.{Tally}
use Rattle.continuation_table.specs.declared.table.Row.{Row}
use Rattle.continuation_table.specs.Continuation.{own_colour}

-- whether two colours are one
abbrev pub is_colour : Colour → Colour → Bool
is_colour colour.Black colour.Black = true
is_colour colour.White colour.White = true
is_colour colour.Black colour.White = false
is_colour colour.White colour.Black = false

-- whether the hit goes on at once
abbrev pub is_now : Hit → Bool
is_now hit = option_map_or (λ (next : Next). next.now) hit.next false

-- whether the hit goes on later
abbrev pub is_later : Hit → Bool
is_later hit = option_map_or (λ (next : Next). not next.now) hit.next false

-- Whether a side of the pattern won, where the game ended so. In the pattern's own colours the
-- winner is the other side if the hit's label exchanges them.
abbrev pub is_own_win : Colour → ℕ → Outcome → Bool
is_own_win side label outcome.Black = is_colour side (own_colour label colour.Black)
is_own_win side label outcome.White = is_colour side (own_colour label colour.White)
is_own_win side label outcome.Draw = false
is_own_win side label outcome.Void = false
is_own_win side label outcome.Unknown = false
is_own_win side label outcome.Other = false

-- whether the hit's game was won by a side of the pattern
abbrev pub is_win : Colour → Hit → Bool
is_win side hit = is_own_win side (number_of_label hit.place.label) hit.outcome

-- whether neither side of the pattern is told to have won the hit's game
abbrev pub is_no_win : Hit → Bool
is_no_win hit = not (is_win colour.Black hit) && not (is_win colour.White hit)

-- The tally of a list of hits: how many they are, how many go on at once, and later, how many were
-- won by the pattern's black and by its white, and how many by neither.
abbrev pub tally_of : List Hit → Tally
tally_of hits = record {
  count = length hits;
  now = count_by is_now hits;
  later = count_by is_later hits;
  black = count_by (is_win colour.Black) hits;
  white = count_by (is_win colour.White) hits;
  other = count_by is_no_win hits;
}

-- whether the hit goes on by this side, in this column and row of the pattern
abbrev pub goes_on : Colour → ℕ → ℕ → Hit → Bool
goes_on side x y hit = option_map_or (λ (next : Next). is_colour next.colour side && (next.x == x)
    && (next.y == y)) hit.next false

-- the hits that go on by this side, in this column and row of the pattern
abbrev pub going_on : Colour → ℕ → ℕ → List Hit → List Hit
going_on side x y hits = filter (goes_on side x y) hits

-- the order of rows: black first, then by the row of the pattern's point, then by its column
abbrev pub IsRowBefore : Row → Row → Type 0
IsRowBefore a b =
    ((a.colour ≡ colour.Black) × (b.colour ≡ colour.White))
    ⊎ ((a.colour ≡ b.colour) × ((a.y < b.y) ⊎ ((a.y ≡ b.y) × (a.x < b.x))))

-- the row tells of this continuation
abbrev pub IsRowOf : Next → Row → Type 0
IsRowOf next row = (row.colour ≡ next.colour) × (row.x ≡ next.x) × (row.y ≡ next.y)

-- The row tells how some of the hits go on, with the tally of these.
pub record IsTold (hits : List Hit) (row : Row) : Type 0 where
  pub some : 1 ≤ length (going_on row.colour row.x row.y hits)
  pub tally : row.tally ≡ tally_of (going_on row.colour row.x row.y hits)

-- There is one row for each continuation of the hits, in order, and each tells of one.
pub record AreRows (hits : List Hit) (rows : List Row) : Type 0 where
  pub ordered : AllPairs IsRowBefore rows
  pub sound : All (IsTold hits) rows
  pub complete : All (λ (hit : Hit). IfSome hit.next (λ next. Any (IsRowOf next) rows)) hits

-- a table as contracts see it
pub record TableView : Type 0 where
  pub rows : List Row
  pub totals : Tally

-- The table has the rows of the hits, and the tally of all of them.
pub record IsTable (hits : List Hit) (table : TableView) : Type 0 where
  pub rows : AreRows hits table.rows
  pub totals : table.totals ≡ tally_of hits
