-- The runs of a game as words and lists: definitions for the private functions that pack them.
use Rattle.std.specs.Prelude.{◌≡◌, ℕ, ◌<◌, ◌≤◌, false, List, [], ◌∷◌, length}
use Rattle.capture_index.specs.declared.growing.Few.{Few}
use Rattle.capture_index.specs.declared.growing.Few.TheVariants as few
use Rattle.capture_index.specs.declared.run.Run.{Run}
use Rattle.capture_index.specs.declared.time.PackedTime.{PackedTime}
use Rattle.capture_index.specs.declared.time.Time.{Time}
use Rattle.capture_index.specs.Lists.{AreLists, IsWord, list_in, one_run, runs_of}
use Rattle.capture_index.specs.Times.{FitsWord, is_many}

-- there are no runs, or this one
abbrev pub AreFew : List Run → Few → Type 0
AreFew runs few.Never = runs ≡ []
AreFew runs (few.Once run) = runs ≡ run ∷ []
AreFew runs few.Many = Unit {0}

-- a word tells these runs, perhaps by a list that is there since
pub record IsPacked (point : List Run) (ends : List ℕ) (runs : List Run) (ends_after : List ℕ)
    (runs_after : List Run) (packed : PackedTime) : Type 0 where
  pub lists : AreLists ends_after runs_after
  pub more : length ends ≤ length ends_after
  pub kept : (k : ℕ) → k < length ends → list_in ends_after runs_after k ≡ list_in ends runs k
  pub word : IsWord ends_after packed
  pub tells : runs_of ends_after runs_after packed ≡ point

-- a word has room for the time, and it is that of a point with this run alone
pub record IsTimeOfRun (run : Run) (time : Time) : Type 0 where
  pub fits : FitsWord time
  pub one : is_many time ≡ false
  pub tells : one_run time ≡ run ∷ []

-- the same of a point with one run at most
pub record IsTimeOfFew (few : Few) (time : Time) : Type 0 where
  pub fits : FitsWord time
  pub one : is_many time ≡ false
  pub tells : (runs : List Run) → AreFew runs few → one_run time ≡ runs
