-- The lists of runs, and the runs that words tell: definitions for the private functions.
use Rattle.std.specs.Prelude.{◌≡◌, ℕ, ◌-◌, ◌<◌, ◌≤◌, ◌==◌, IsTrue, List, [], ◌∷◌, if◌then◌else◌, length, slice_index_or, slice_range}
use Rattle.kb_geometry.specs.declared.stone.Colour.{Colour}
use Rattle.kb_geometry.specs.Capture.{stone_of}
use Rattle.capture_index.specs.declared.run.Run.{Run}
use Rattle.capture_index.specs.declared.time.PackedTime.{PackedTime}
use Rattle.capture_index.specs.declared.time.Time.{Time}
use Rattle.capture_index.specs.declared.time.Time.TheVariants as time
use Rattle.capture_index.specs.declared.stretch.Stretch.{Stretch}
use Rattle.ready_images.specs.declared.want.Want.{Want}
use Rattle.capture_index.specs.Runs.{cell_by}
use Rattle.capture_index.specs.Stretches.{IsWithin, is_wanted}
use Rattle.capture_index.specs.Times.{told_by}

-- the node is in one of the first so many stretches
abbrev pub IsInFirst : ℕ → List Stretch → ℕ → Type 0
IsInFirst count stretches n = (k : ℕ) × (d : Stretch) × (k < count) ×
    IsWithin n (slice_index_or stretches k d)

-- the runs that are stored at a list's number
abbrev pub list_start : List ℕ → ℕ → ℕ
list_start ends k = if k == 0 then 0 else slice_index_or ends (k - 1) 0

-- the list with a number
abbrev pub list_in : List ℕ → List Run → ℕ → List Run
list_in ends runs k = slice_range runs (list_start ends k) (slice_index_or ends k 0)

-- the lists of runs lie one behind the other, to the end
pub record AreLists (ends : List ℕ) (runs : List Run) : Type 0 where
  pub each : (k : ℕ) → k < length ends → (list_start ends k ≤ slice_index_or ends k 0) ×
      (slice_index_or ends k 0 ≤ length runs)
  pub whole : list_start ends (length ends) ≡ length runs

-- the list of the word is there, if it is the number of one
abbrev pub IsWord : List ℕ → PackedTime → Type 0
IsWord ends packed = (list : ℕ) → told_by packed ≡ time.Many list → list < length ends

-- the run that begins where a point has its stone
abbrev pub stone_run : ℕ → Colour → Run
stone_run node stone = record { first = node; cell = stone_of stone }

-- the run of a point that has one, if it has no list
abbrev pub one_run : Time → List Run
one_run (time.First node stone) = stone_run node stone ∷ []
one_run (time.Many list) = []
one_run time.Never = []

-- the runs of a point
abbrev pub runs_told : List ℕ → List Run → Time → List Run
runs_told ends runs (time.First node stone) = stone_run node stone ∷ []
runs_told ends runs (time.Many list) = list_in ends runs list
runs_told ends runs time.Never = []

-- the runs of a word
abbrev pub runs_of : List ℕ → List Run → PackedTime → List Run
runs_of ends runs packed = runs_told ends runs (told_by packed)

-- the cell that these runs tell at a node is wanted
abbrev pub IsWantedBy : Want → List Run → ℕ → Type 0
IsWantedBy want runs n = IsTrue (is_wanted want (cell_by runs n))
