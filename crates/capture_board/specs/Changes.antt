-- Changes of a position: those that lead from one position to another, and those that are taken
-- back.
use Rattle.std.specs.Prelude.{◌≡◌, ◌≢◌, ℕ, ◌<◌, List, [], ◌∷◌, length, slice_set, All, AllPairs}
use Rattle.kb_geometry.specs.declared.stone.Change.{Change}
use Rattle.kb_geometry.specs.Capture.{Position, cell_at}

-- the position with these changes made, one after another
abbrev pub with_changes : Position → List Change → Position
with_changes position [] = position
with_changes position (c ∷ cs) = with_changes (slice_set position c.point c.new) cs

-- Changes that can be made on a position: each on a point of its own, by point ascending, from the
-- cell that stands there to another one.
pub record AreChangesOf (before : Position) (changes : List Change) : Type 0 where
  pub on_board : All (λ (c : Change). c.point < length before) changes
  pub ascending : AllPairs (λ (c d : Change). c.point < d.point) changes
  pub old : All (λ (c : Change). c.old ≡ cell_at before c.point) changes
  pub differ : All (λ (c : Change). c.old ≢ c.new) changes

-- the net changes from one position to another
pub record LeadFrom (before : Position) (changes : List Change) (after : Position) : Type 0 where
  pub changes_of : AreChangesOf before changes
  pub made : with_changes before changes ≡ after

-- Changes that may be taken back: each on a point of its own, and its new cell stands there.
pub record MayBeUndone (position : Position) (changes : List Change) : Type 0 where
  pub on_board : All (λ (c : Change). c.point < length position) changes
  pub apart : AllPairs (λ (c d : Change). c.point ≢ d.point) changes
  pub new : All (λ (c : Change). c.new ≡ cell_at position c.point) changes

-- after is before with each change's old cell put back
pub record IsUndone (before : Position) (changes : List Change) (after : Position) : Type 0 where
  pub same_length : length after ≡ length before
  pub back : All (λ (c : Change). cell_at after c.point ≡ c.old) changes
  pub kept : (p : ℕ) → All (λ (c : Change). c.point ≢ p) changes →
      cell_at after p ≡ cell_at before p
