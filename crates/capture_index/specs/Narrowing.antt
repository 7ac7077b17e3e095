-- The nodes that are left of those at which wants are met, want by want: definitions for the private
-- functions.
use Rattle.std.specs.Prelude.{◌≡◌, ℕ, ◌+◌, ◌<◌, ◌≤◌, ◌↔◌, Bool, IsTrue, true, false, List, length, slice_index_or}
use Rattle.capture_index.specs.declared.by_lists.Hull.{Hull}
use Rattle.capture_index.specs.declared.by_words.Left.{Left}
use Rattle.capture_index.specs.declared.by_words.Listed.{Listed}
use Rattle.capture_index.specs.declared.packed_runs.PackedRuns.{PackedRuns}
use Rattle.capture_index.specs.declared.stretch.Stretch.{Stretch}
use Rattle.ready_images.specs.declared.want.Want.{Want}
use Rattle.capture_index.specs.Finding.{AreMet, AreMetByWord, IsMet, is_listed}
use Rattle.capture_index.specs.Hulls.{IsInHull}
use Rattle.capture_index.specs.Stretches.{IsWithin}
use Rattle.ready_images.specs.Wants.{no_want}

-- the stretch's nodes are those of another one at which something is wanted
abbrev pub IsNarrowed : Stretch → (ℕ → Type 0) → Stretch → Type 0
IsNarrowed before IsWanted after = (n : ℕ) → IsWithin n after ↔ (IsWithin n before × IsWanted n)

-- the node is before another one, if that is asked for, or is that one or behind it, if that is
abbrev pub IsOnSide : ℕ → Bool → Bool → ℕ → Type 0
IsOnSide node before from n = (n < node → IsTrue before) × (node ≤ n → IsTrue from)

-- of the first so many wants those whose points have a list stand in the range
abbrev pub AreListed : PackedRuns → ℕ → List Want → ℕ → Listed → Type 0
AreListed index base wants count listed = (k : ℕ) → k < count →
    is_listed index (base + (slice_index_or wants k no_want).offset) ≡ true →
    (listed.first ≤ k) × (k < listed.end)

-- Each node at which all wants are met is left. At those that are left those of the first so many
-- wants are met whose points have one run at most; it is known where the others stand.
pub record IsLeftBy (index : PackedRuns) (base : ℕ) (wants : List Want) (count : ℕ) (left : Left)
    : Type 0 where
  pub kept : (n : ℕ) → n < index.nodes → AreMet index base wants n → IsWithin n left.nodes
  pub inside : (n : ℕ) → IsWithin n left.nodes → n < index.nodes
  pub words : (n : ℕ) → IsWithin n left.nodes → AreMetByWord index base wants count n
  pub listed : AreListed index base wants count left.listed
  pub within : left.listed.end ≤ count

-- Each node at which all wants are met is left, and some node is. At those that are left all are met
-- whose points have one run at most, and where there is no gap those of the first so many too whose
-- points have a list.
pub record IsLeftByLists (index : PackedRuns) (base : ℕ) (wants : List Want) (count : ℕ) (hull : Hull)
    : Type 0 where
  pub kept : (n : ℕ) → n < index.nodes → AreMet index base wants n → IsInHull hull n
  pub inside : hull.to ≤ index.nodes
  pub some : hull.from < hull.to
  pub words : (n : ℕ) → IsInHull hull n → AreMetByWord index base wants (length wants) n
  pub whole : hull.gap ≡ false → (n : ℕ) → IsInHull hull n → (k : ℕ) → k < count →
      k < length wants → is_listed index (base + (slice_index_or wants k no_want).offset) ≡ true →
      IsMet index base (slice_index_or wants k no_want) n
