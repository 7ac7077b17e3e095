-- How placements are put into rows, class by class: definitions of private functions.
use Rattle.std.specs.Prelude.{◌≡◌, ◌⊎◌, ℕ, ◌+◌, ◌<◌, ◌++◌, ◌∷◌, [], List, length, slice_index, slice_index_or}
use Rattle.pattern_images.specs.ImageList.{ImageList}
use Rattle.ready_images.specs.declared.row.Row.{Row}
use Rattle.ready_images.specs.Rows.{HasClass, row_at}

-- The list has exactly the placements of the class among the first so many, ascending.
pub record AreOfClass (images : ImageList) (class count : ℕ) (list : List ℕ) : Type 0 where
  pub sound : (k : ℕ) → k < length list →
      (slice_index list k < count) × HasClass images (slice_index list k) class
  pub complete : (i : ℕ) → i < count → HasClass images i class →
      (k : ℕ) × (k < length list) × (slice_index list k ≡ i)
  pub ascending : (j k : ℕ) → j < k → k < length list → slice_index list j < slice_index list k

-- the list at a place
abbrev pub list_at : List (List ℕ) → ℕ → List ℕ
list_at lists class = slice_index_or lists class []

-- there is such a list for each class
abbrev pub AreByClass : ImageList → ℕ → List (List ℕ) → Type 0
AreByClass images count lists = (class : ℕ) → class < length images.grids →
    AreOfClass images class count (list_at lists class)

-- the list has each placement of the classes before this one, and of this one the first so many,
-- each once
pub record ArePlacedTo (images : ImageList) (class count : ℕ) (numbers : List ℕ) : Type 0 where
  pub sound : (k : ℕ) → k < length numbers →
      (slice_index numbers k < length images.placements) × ((c : ℕ)
      × HasClass images (slice_index numbers k) c
      × ((c < class) ⊎ ((c ≡ class) × (slice_index numbers k < count))))
  pub complete : (i c : ℕ) → i < length images.placements → HasClass images i c →
      (c < class) ⊎ ((c ≡ class) × (i < count)) →
      (k : ℕ) × (k < length numbers) × (slice_index numbers k ≡ i)
  pub once : (j k : ℕ) → j < length numbers → k < length numbers →
      slice_index numbers j ≡ slice_index numbers k → j ≡ k

-- a placement of this class with this base was added to the last row, behind which it stands
pub record IsLastRowLonger (class base : ℕ) (old new : List Row) : Type 0 where
  pub last : ℕ
  pub at_end : length old ≡ last + 1
  pub same_length : length new ≡ length old
  pub class_is : (row_at old last).class ≡ class
  pub base_is : base ≡ (row_at old last).base + (row_at old last).count
  pub others : (r : ℕ) → r < last → row_at new r ≡ row_at old r
  pub longer : row_at new last
      ≡ record (row_at old last) { count = (row_at old last).count + 1 }

-- the rows have gained a placement of this class with this base, which stands so far behind in the
-- list of numbers
abbrev pub IsRowGrown : ℕ → ℕ → ℕ → List Row → List Row → Type 0
IsRowGrown class base start old new = IsLastRowLonger class base old new
    ⊎ (new ≡ old ++ record { class = class; base = base; start = start; count = 1 } ∷ [])
