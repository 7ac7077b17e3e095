-- The nodes of a game at which wanted cells stand.
use Rattle.std.specs.Prelude.{◌≡◌, ℕ, ◌+◌, ◌<◌, Bool, IsTrue, true, false, ◌↔◌, List, length, slice_index_or}
use Rattle.kb_geometry.specs.declared.stone.Cell.{Cell}
use Rattle.kb_geometry.specs.Board.{point_count}
use Rattle.kb_geometry.specs.Capture.{cell_at}
use Rattle.capture_board.specs.Deltas.{AreDeltas, Deltas, node_count, position_at}
use Rattle.capture_index.specs.declared.time.PackedTime.{PackedTime}
use Rattle.capture_index.specs.declared.stretch.Stretch.{Stretch}
use Rattle.ready_images.specs.declared.want.Want.{Want}
use Rattle.capture_index.specs.declared.packed_runs.PackedRuns.{PackedRuns}
use Rattle.capture_index.specs.Branches.{AreBranchesTo}
use Rattle.capture_index.specs.Runs.{cell_by}
use Rattle.capture_index.specs.Lists.{runs_of}
use Rattle.capture_index.specs.Stretches.{IsIn, is_wanted}
use Rattle.ready_images.specs.Wants.{no_want}
use Rattle.capture_index.specs.Times.{is_many, told_by}

-- the word past the last point
abbrev pub no_time : PackedTime
no_time = record { word = 0 }

-- the word of a point
abbrev pub time_at : PackedRuns → ℕ → PackedTime
time_at index p = slice_index_or index.times.items p no_time

-- whether a point has a list of runs
abbrev pub is_listed : PackedRuns → ℕ → Bool
is_listed index p = is_many (told_by (time_at index p))

-- the cell of a point at a node
abbrev pub packed_cell : PackedRuns → ℕ → ℕ → Cell
packed_cell index p n = cell_by (runs_of index.ends.items index.runs.items (time_at index p)) n

-- the want is met at a node, by the point so far behind base
abbrev pub IsMet : PackedRuns → ℕ → Want → ℕ → Type 0
IsMet index base want n = IsTrue (is_wanted want (packed_cell index (base + want.offset) n))

-- the first so many wants are met at a node
abbrev pub AreMetTo : PackedRuns → ℕ → List Want → ℕ → ℕ → Type 0
AreMetTo index base wants count n = (k : ℕ) → k < count →
    IsMet index base (slice_index_or wants k no_want) n

-- each want is met at a node
abbrev pub AreMet : PackedRuns → ℕ → List Want → ℕ → Type 0
AreMet index base wants n = AreMetTo index base wants (length wants) n

-- the first so many wants are met at a node, but perhaps those whose points have a list of runs
abbrev pub AreMetByWord : PackedRuns → ℕ → List Want → ℕ → ℕ → Type 0
AreMetByWord index base wants count n = (k : ℕ) → k < count →
    is_listed index (base + (slice_index_or wants k no_want).offset) ≡ false →
    IsMet index base (slice_index_or wants k no_want) n

-- the words are those of the points from a base on
abbrev pub ArePointsFrom : PackedRuns → ℕ → List PackedTime → Type 0
ArePointsFrom index base points = (length points + base ≡ point_count index.shape)
    × ((k : ℕ) → k < length points → slice_index_or points k no_time ≡ time_at index (base + k))

-- the nodes that are left are those at which the first so many wants with lists are met
abbrev pub IsCutBy : PackedRuns → ℕ → List Want → ℕ → List Stretch → List Stretch → Type 0
IsCutBy index base wants count before after =
    (n : ℕ) → n < index.nodes → IsIn after n ↔ (IsIn before n × ((k : ℕ) → k < count →
    is_listed index (base + (slice_index_or wants k no_want).offset) ≡ true →
    IsMet index base (slice_index_or wants k no_want) n))

-- the nodes that are left are those at which the want is met, if its point has a list
abbrev pub IsCutAt : PackedRuns → ℕ → Want → List Stretch → List Stretch → Type 0
IsCutAt index base want before after =
    (n : ℕ) → n < index.nodes → IsIn after n ↔ (IsIn before n ×
    (is_listed index (base + want.offset) ≡ true → IsMet index base want n))

-- the index tells the cell of each point at each node of the game
pub record IsRunIndexOf (deltas : Deltas) (index : PackedRuns) : Type 0 where
  pub are : AreDeltas deltas
  pub shape : index.shape ≡ deltas.shape
  pub nodes : index.nodes ≡ node_count deltas
  pub branches : AreBranchesTo deltas (node_count deltas) index.branches.items
  pub cells : (p n : ℕ) → p < point_count deltas.shape → n < node_count deltas →
      packed_cell index p n ≡ cell_at (position_at deltas n) p
