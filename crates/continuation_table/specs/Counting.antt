-- Definitions of the private functions that count hits and keep the rows.
use Rattle.std.specs.Prelude.{◌≡◌, ℕ, ◌+◌, ◌<◌, ◌≤◌, List, length, slice_index_or, slice_set}
use Rattle.std.specs.List.{insert}
use Rattle.kb_geometry.specs.declared.stone.Colour.TheVariants as colour
use Rattle.kb_geometry.specs.Counts.{one_if}
use Rattle.pattern_images.specs.declared.hit.Hit.{Hit}
use Rattle.continuation_table.specs.declared.table.Row.{Row}
use Rattle.continuation_table.specs.declared.tally.Tally.{Tally}
use Rattle.continuation_table.specs.Table.{IsRowBefore, is_later, is_no_win, is_now, is_win}

-- the tally with one hit more
abbrev pub counted : Tally → Hit → Tally
counted tally hit = record {
  count = tally.count + 1;
  now = tally.now + one_if (is_now hit);
  later = tally.later + one_if (is_later hit);
  black = tally.black + one_if (is_win colour.Black hit);
  white = tally.white + one_if (is_win colour.White hit);
  other = tally.other + one_if (is_no_win hit);
}

-- no number of the tally is more than this
pub record IsWithinCount (most : ℕ) (tally : Tally) : Type 0 where
  pub count : tally.count ≤ most
  pub now : tally.now ≤ most
  pub later : tally.later ≤ most
  pub black : tally.black ≤ most
  pub white : tally.white ≤ most
  pub other : tally.other ≤ most

-- two rows are of one continuation
abbrev pub HaveSameNext : Row → Row → Type 0
HaveSameNext a b = (a.colour ≡ b.colour) × (a.x ≡ b.x) × (a.y ≡ b.y)

-- The rows that come before a row, which has no tally yet, are those with a number below this one.
pub record IsPlaceIn (rows : List Row) (new : Row) (i : ℕ) : Type 0 where
  pub within : i ≤ length rows
  pub before : (k : ℕ) (d : Row) → k < i → IsRowBefore (slice_index_or rows k d) new
  pub rest : (k : ℕ) (d : Row) → i ≤ k → k < length rows →
      ¬ IsRowBefore (slice_index_or rows k d) new

-- The rows with one hit more, which goes on as the new row tells: that row's tally has one hit
-- more, or the new row is put in.
pub data IsRowAdded (hit : Hit) (old : List Row) (new : Row) : List Row → Type 0 where
  one_more : (i : ℕ) (d : Row) → IsPlaceIn old new i → i < length old →
      HaveSameNext (slice_index_or old i d) new →
      IsRowAdded hit old new (slice_set old i (record {
        colour = (slice_index_or old i d).colour;
        x = (slice_index_or old i d).x;
        y = (slice_index_or old i d).y;
        tally = counted (slice_index_or old i d).tally hit;
      }))
  absent : (i : ℕ) →
      IsPlaceIn old new i →
      ((d : Row) → i < length old → ¬ HaveSameNext (slice_index_or old i d) new) →
      IsRowAdded hit old new (insert old i new)
