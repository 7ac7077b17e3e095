-- Points that are noted one after another.
use Rattle.std.proofs.Common.{◌≡◌, ℕ, ◌+◌, ◌-◌, ◌*◌, ◌<◌, ◌≤◌, ◌↔◌, ◌⊎◌, List, [], length, slice_index_or, sym, ◌∙◌, ap, subst, arith, inl, inr}
use Rattle.std.specs.Prelude.{Contains}
use Rattle.std.proofs.lemmas.Bool.{cases_lt}
use Rattle.kb_geometry.specs.declared.shape.Shape.{Shape}
use Rattle.kb_geometry.specs.declared.stone.Cell.{Cell}
use Rattle.kb_geometry.specs.declared.stone.Cell.TheVariants as stone
use Rattle.kb_geometry.specs.Board.{cols_of}
use Rattle.kb_geometry.specs.declared.shape.TheConstants.{MAX_POINTS}
use Rattle.kb_geometry.proofs.Shapes.{point_count-le-most}
use Rattle.pattern_images.specs.declared.cell.PatternCell.{PatternCell}
use Rattle.pattern_images.specs.declared.cell.PatternCell.TheVariants as cell
use Rattle.pattern_images.specs.Grid.{Grid, cell_in}
use Rattle.pattern_images.specs.Holds.{number_under}
use Rattle.pattern_images.specs.ImageList.{IsPlacedOn}
use Rattle.pattern_images.specs.Placements.{Placement}
use Rattle.candidate_sieve.specs.declared.asked.AskedPoints.{AskedPoints}
use Rattle.candidate_sieve.specs.NodeCandidates.{AsksCell, AsksThere, noted}
use Rattle.candidate_sieve.specs.Noting.{AreNoted, AsksInRow, AsksOn}
use Rattle.candidate_sieve.proofs.CellsTold.{row-cell, row-point, under-lt}

-- ---- one cell

-- the set of one cell gains the point, if the pattern's cell allows this cell
abbrev pub IsSetBy : PatternCell → Cell → ℕ → List ℕ → List ℕ → Type 0
IsSetBy pattern c point before after = (p : ℕ) → Contains after p ↔ (Contains before p ⊎ (AsksCell pattern c × (p ≡ point)))

pub set_in : (pattern : PatternCell) (c : Cell) (point : ℕ) (before after : List ℕ) → AsksCell pattern c → ((p : ℕ) → Contains after p ↔ (Contains before p ⊎ (p ≡ point))) → IsSetBy pattern c point before after
set_in pattern c point before after asks inserted p = (
  λ h. elim ((inserted p).0 h) [ inl was ↦ inl was | inr here ↦ inr (asks, here) ],
  λ h. (inserted p).1 (elim h [ inl was ↦ inl was | inr here ↦ inr here.1 ]),
)

pub set_left : (pattern : PatternCell) (c : Cell) (point : ℕ) (before : List ℕ) → (AsksCell pattern c → ⊥) → IsSetBy pattern c point before before
set_left pattern c point before not p = (λ h. inl h, λ h. elim h [ inl was ↦ was | inr here ↦ absurd (not here.0) ])

pub noted-cell : (before after : AskedPoints) (pattern : PatternCell) (point : ℕ) → IsSetBy pattern stone.Empty point before.empty after.empty → IsSetBy pattern stone.Black point before.black after.black → IsSetBy pattern stone.White point before.white after.white → AreNoted before (AsksOn pattern point) after
noted-cell before after pattern point empty black white stone.Empty p = empty p
noted-cell before after pattern point empty black white stone.Black p = black p
noted-cell before after pattern point empty black white stone.White p = white p

-- ---- one after another

-- one of the first ones asks
abbrev pub AsksBelow : (ℕ → ℕ → Cell → Type 0) → ℕ → ℕ → Cell → Type 0
AsksBelow asks n p c = (k : ℕ) × (k < n) × asks k p c

module _ (asks : ℕ → ℕ → Cell → Type 0) where
  below-more : (n : ℕ) (p : ℕ) (c : Cell) → AsksBelow asks (n + 1) p c ↔ (AsksBelow asks n p c ⊎ asks n p c)
  below-more n p c = (
    λ h. elim (cases_lt h.0 n) [
      | inl before ↦ inl (h.0, before, h.2)
      | inr last ↦
          let here : h.0 ≡ n = omega (arith, h.1, last) in
          inr (subst (λ (k : ℕ). asks k p c) here h.2)
    ],
    λ h. elim h [ inl before ↦ (before.0, omega (arith, before.1), before.2) | inr last ↦ (n, omega arith, last) ],
  )

  pub noted-start : (before : AskedPoints) → AreNoted before (AsksBelow asks 0) before
  noted-start before c p = (λ h. inl h, λ h. elim h [ inl was ↦ was | inr none ↦ absurd (omega (arith, none.1)) ])

  pub noted-more : (before after next : AskedPoints) (n : ℕ) → AreNoted before (AsksBelow asks n) after → AreNoted after (asks n) next → AreNoted before (AsksBelow asks (n + 1)) next
  noted-more before after next n so_far now c p = (
    λ h. elim ((now c p).0 h) [
      | inl there ↦ elim ((so_far c p).0 there) [ inl was ↦ inl was | inr earlier ↦ inr ((below-more n p c).1 (inl earlier)) ]
      | inr last ↦ inr ((below-more n p c).1 (inr last))
    ],
    λ h. elim h [
      | inl was ↦ (now c p).1 (inl ((so_far c p).1 (inl was)))
      | inr some ↦ elim ((below-more n p c).0 some) [
        | inl earlier ↦ (now c p).1 (inl ((so_far c p).1 (inr earlier)))
        | inr last ↦ (now c p).1 (inr last)
      ]
    ],
  )

  -- from no point on
  pub from_none : (points : AskedPoints) → points.empty ≡ [] → points.black ≡ [] → points.white ≡ [] → (c : Cell) (p : ℕ) → Contains (noted points c) p ↔ AsksBelow asks 0 p c
  from_none points empty black white c p = (λ h. absurd (omega (arith, h.1, ap length (none c))), λ h. absurd (omega (arith, h.1)))
    where
      none : (c : Cell) → noted points c ≡ []
      none stone.Empty = empty
      none stone.Black = black
      none stone.White = white

  pub from_none-more : (after next : AskedPoints) (n : ℕ) → ((c : Cell) (p : ℕ) → Contains (noted after c) p ↔ AsksBelow asks n p c) → AreNoted after (asks n) next → (c : Cell) (p : ℕ) → Contains (noted next c) p ↔ AsksBelow asks (n + 1) p c
  from_none-more after next n so_far now c p = (
    λ h. (below-more n p c).1 (elim ((now c p).0 h) [ inl there ↦ inl ((so_far c p).0 there) | inr last ↦ inr last ]),
    λ h. (now c p).1 (elim ((below-more n p c).0 h) [ inl earlier ↦ inl ((so_far c p).1 earlier) | inr last ↦ inr last ]),
  )

-- what asks for the same points
pub noted-same : (before after : AskedPoints) (asks others : ℕ → Cell → Type 0) → ((p : ℕ) (c : Cell) → asks p c ↔ others p c) → AreNoted before asks after → AreNoted before others after
noted-same before after asks others same are c p = (
  λ h. elim ((are c p).0 h) [ inl was ↦ inl was | inr now ↦ inr ((same p c).0 now) ],
  λ h. (are c p).1 (elim h [ inl was ↦ inl was | inr now ↦ inr ((same p c).1 now) ]),
)

-- ---- the rows of a placement
module _ (shape : Shape) (placement : Placement) where
  -- a cell of the placement's row asks
  abbrev pub AsksInRowOf : ℕ → ℕ → Cell → Type 0
  AsksInRowOf dy p c = (dx : ℕ) × (dx < placement.grid.cols) × (AsksCell (cell_in placement.grid dx dy) c × (p ≡ number_under shape placement dx dy))

  pub rows-told : (count : ℕ) → count ≡ placement.grid.rows → (p : ℕ) (c : Cell) → AsksBelow AsksInRowOf count p c ↔ AsksThere shape placement p c
  rows-told count all p c = (
    λ (dy, below, (dx, in_cols, asks)). (dx, dy, in_cols, omega (arith, below, all), asks),
    λ (dx, dy, in_cols, in_rows, asks). (dy, omega (arith, in_rows, all), (dx, in_cols, asks)),
  )

  module _ (grid : Grid) (same : grid ≡ placement.grid) (row : List PatternCell) (dy start : ℕ) (count : length row ≡ grid.cols)
      (cells : (dx : ℕ) → dx < grid.cols → slice_index_or row dx cell.Any ≡ cell_in grid dx dy) (from : start ≡ placement.y * cols_of shape + placement.x + dy * cols_of shape) where
    wide : length row ≡ placement.grid.cols
    wide = count ∙ ap (λ (g : Grid). g.cols) same

    pub row-asks : (p : ℕ) (c : Cell) → AsksInRow row start p c ↔ AsksInRowOf dy p c
    row-asks p c = (
      λ (k, below, (asks, at)).
          let lt : k < placement.grid.cols = omega (arith, below, wide) in
          (k, lt, (subst (λ (d : PatternCell). AsksCell d c) (row-cell shape placement grid same row dy start count cells from k lt) asks, at ∙ sym (row-point shape placement grid same row dy start count cells from k))),
      λ (dx, lt, (asks, at)).
          (dx, omega (arith, lt, wide), (subst (λ (d : PatternCell). AsksCell d c) (sym (row-cell shape placement grid same row dy start count cells from dx lt)) asks, at ∙ row-point shape placement grid same row dy start count cells from dx)),
    )

    -- the row ends on the board
    pub row_fits : IsPlacedOn shape placement → dy < placement.grid.rows → start + length row ≤ MAX_POINTS
    row_fits placed in_rows =
        let last : placement.grid.cols - 1 < placement.grid.cols = omega (arith, placed.some_column) in
        let on_board = under-lt shape placement placed (placement.grid.cols - 1) dy last in_rows in
        omega (arith, on_board, row-point shape placement grid same row dy start count cells from (placement.grid.cols - 1), wide, placed.some_column, point_count-le-most shape)
