-- The cell at a node by runs.
use Rattle.std.proofs.Common.{◌≡◌, ℕ, ◌<◌, ◌≤◌, Bool, cond, leb, List, [], ◌∷◌, refl, sym, ◌∙◌, ap, arith}
use Rattle.std.proofs.lemmas.Bool.{le-leb, false_from_ne_true, leb-true}
use Rattle.std.proofs.lemmas.List.Elements.{All-head, All-cons, All-weaker}
use Rattle.kb_geometry.specs.declared.stone.Cell.{Cell}
use Rattle.capture_index.specs.declared.run.Run.{Run}
use Rattle.capture_index.specs.Runs.{BeginsBy, cell_by}
use Rattle.capture_index.specs.Building.{IsPut}

-- the first run, where it begins at or before the node
pub cell_by-first : (r : Run) (rs : List Run) (n : ℕ) → r.first ≤ n → cell_by (r ∷ rs) n ≡ r.cell
cell_by-first r rs n le = ap (λ (b : Bool). cond b r.cell (cell_by rs n)) (le-leb r.first n le)

-- the others, where it begins behind the node
pub cell_by-rest : (r : Run) (rs : List Run) (n : ℕ) → n < r.first → cell_by (r ∷ rs) n ≡ cell_by rs n
cell_by-rest r rs n lt = ap (λ (b : Bool). cond b r.cell (cell_by rs n)) (false_from_ne_true (leb r.first n) (λ t. absurd (omega (arith, leb-true r.first n t))))

-- behind the last run the cell stays
pub cell_by-stays : (rs : List Run) (n k : ℕ) → BeginsBy n rs → n ≤ k → cell_by rs k ≡ cell_by rs n
cell_by-stays [] n k begun le = refl
cell_by-stays (r ∷ rs) n k begun le =
    let first : r.first ≤ n = All-head (λ (s : Run). s.first ≤ n) r rs begun in
    cell_by-first r rs k (omega arith) ∙ sym (cell_by-first r rs n first)

pub BeginsBy-later : (rs : List Run) (n k : ℕ) → n ≤ k → BeginsBy n rs → BeginsBy k rs
BeginsBy-later rs n k le begun = All-weaker (λ (r : Run). r.first ≤ n) (λ (r : Run). r.first ≤ k) (λ r h. omega arith) rs begun

-- a cell that was there already
pub IsPut-same : (node : ℕ) (cell : Cell) (before after : List Run) → ((k : ℕ) → k < node → cell_by after k ≡ cell_by before k) → BeginsBy node after → ((k : ℕ) → node ≤ k → cell_by after k ≡ cell) → IsPut node cell before after
IsPut-same node cell before after past begun now = record { past = past; now = now; begun = begun }

-- a run more
pub IsPut-more : (node : ℕ) (cell : Cell) (before middle : List Run) → ((k : ℕ) → k < node → cell_by middle k ≡ cell_by before k) → BeginsBy node middle → IsPut node cell before (record { first = node; cell = cell } ∷ middle)
IsPut-more node cell before middle past begun = record {
  past = λ k lt. cell_by-rest (record { first = node; cell = cell }) middle k lt ∙ past k lt;
  now = λ k le. cell_by-first (record { first = node; cell = cell }) middle k le;
  begun = All-cons (λ (r : Run). r.first ≤ node) (record { first = node; cell = cell }) middle (omega arith) begun;
}
