-- The points that a list of changes has noted, and the list. These definitions mirror the fields,
-- which no public clause names.
use Rattle.std.specs.Prelude.{◌≡◌, ◌≢◌, ℕ, ◌<◌, ◌≤◌, ◌↔◌, List, length, take, slice_index_or, All, AllPairs, Any, Contains}
use Rattle.kb_geometry.specs.declared.stone.Change.{Change}
use Rattle.kb_geometry.specs.Capture.{Position, cell_at}
use Rattle.capture_board.specs.declared.change_list.changed_points.ChangedPoints.{ChangedPoints}

-- The points are those whose cells differ between two positions, and their cells before are those
-- of the first.
pub record AreChangedPoints (base now : Position) (changed : ChangedPoints) : Type 0 where
  pub same_length : length now ≡ length base
  pub differ : (p : ℕ) → Contains changed.points p ↔ (cell_at base p ≢ cell_at now p)
  pub before : (p : ℕ) → Contains changed.points p → cell_at changed.before p ≡ cell_at base p

-- The changes are on these points, and from their cells before.
pub record AreListed (changed : ChangedPoints) (changes : List Change) : Type 0 where
  pub points : (p : ℕ) → Contains changed.points p ↔ Any (λ (c : Change). c.point ≡ p) changes
  pub old : All (λ (c : Change). c.old ≡ cell_at changed.before c.point) changes

-- The changes of the points below a number, in order: from their cells before, to those that stand
-- there.
pub record AreListedBelow (changed : ChangedPoints) (cells : Position) (changes : List Change)
    (end : ℕ) : Type 0 where
  pub few : length changes ≤ end
  pub below : All (λ (c : Change). c.point < end) changes
  pub ascending : AllPairs (λ (c d : Change). c.point < d.point) changes
  pub member : All (λ (c : Change). Contains changed.points c.point) changes
  pub old : All (λ (c : Change). c.old ≡ cell_at changed.before c.point) changes
  pub new : All (λ (c : Change). c.new ≡ cell_at cells c.point) changes
  pub complete : (p : ℕ) → p < end → Contains changed.points p →
      Any (λ (c : Change). c.point ≡ p) changes

-- The changes on points below a number, of a list by point ascending: a front of it.
pub record IsCut (end : ℕ) (before after : List Change) : Type 0 where
  pub no_longer : length after ≤ length before
  pub front : after ≡ take (length after) before
  pub below : All (λ (c : Change). c.point < end) after
  pub rest : (k : ℕ) (d : Change) → length after ≤ k → k < length before →
      end ≤ (slice_index_or before k d).point

-- What changes from one position to another is noted: points that changed since an earlier position
-- are so still.
abbrev pub NotesChanges : Position → ChangedPoints → Position → ChangedPoints → Type 0
NotesChanges now changed after changed_after = (base : Position) →
    AreChangedPoints base now changed → AreChangedPoints base after changed_after
