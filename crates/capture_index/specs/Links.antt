-- How the runs are linked while they are made: definitions for the private functions.
use Prim.Native.Nat.{zero}
use Rattle.std.specs.Prelude.{ℕ, ◌<◌, ◌≤◌, suc, List, [], ◌∷◌, length, slice_index_or, All}
use Rattle.kb_geometry.specs.declared.stone.Cell.TheVariants as stone
use Rattle.capture_index.specs.declared.run.Run.{Run}
use Rattle.capture_index.specs.declared.growing.Link.{Link}

-- the link with this number
abbrev pub link_in : List Link → ℕ → Link
link_in links i = slice_index_or links i (record { before = 0; first = 0; cell = stone.Empty })

-- the run of a link
abbrev pub run_of : Link → Run
run_of link = record { first = link.first; cell = link.cell }

-- the runs from a link back, at most so many; the link's number is one less
abbrev pub runs_within : List Link → ℕ → ℕ → List Run
runs_within links zero at = []
runs_within links (suc most) zero = []
runs_within links (suc most) (suc i) =
    run_of (link_in links i) ∷ runs_within links most (link_in links i).before

-- the runs from a link back: each link stands behind the one before it
abbrev pub runs_from : List Link → ℕ → List Run
runs_from links at = runs_within links at at

-- the link before each link stands before it in the list
abbrev pub AreLinks : List Link → Type 0
AreLinks links = (i : ℕ) → i < length links → (link_in links i).before ≤ i

-- links, and the numbers of the last ones of the points
pub record AreLinked (links : List Link) (last : List ℕ) : Type 0 where
  pub back : AreLinks links
  pub within : All (λ (at : ℕ). at ≤ length links) last
