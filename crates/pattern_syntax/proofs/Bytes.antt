-- The bytes of cells: no two cells have one byte, and none has that of `/`.
use Rattle.std.proofs.Common.{◌≡◌, ◌≢◌, ◌⊎◌, inl, inr, ℕ, refl, sym, arith}
use Rattle.std.proofs.lemmas.Bool.{cases_eq}
use Rattle.pattern_images.specs.declared.cell.PatternCell.{PatternCell}
use Rattle.pattern_images.specs.declared.cell.PatternCell.TheVariants as cell
use Rattle.pattern_syntax.specs.Text.{slash, cell_byte, dot, star, capital_x, capital_o, small_x, small_o}

pub cell_byte-ne-slash : (c : PatternCell) → cell_byte c ≢ slash
cell_byte-ne-slash cell.Empty e = omega arith
cell_byte-ne-slash cell.Black e = omega arith
cell_byte-ne-slash cell.White e = omega arith
cell_byte-ne-slash cell.NotWhite e = omega arith
cell_byte-ne-slash cell.NotBlack e = omega arith
cell_byte-ne-slash cell.Any e = omega arith

pub same_cell : (a b : PatternCell) → cell_byte a ≡ cell_byte b → a ≡ b
same_cell cell.Empty cell.Empty e = refl
same_cell cell.Empty cell.Black e = absurd (omega arith)
same_cell cell.Empty cell.White e = absurd (omega arith)
same_cell cell.Empty cell.NotWhite e = absurd (omega arith)
same_cell cell.Empty cell.NotBlack e = absurd (omega arith)
same_cell cell.Empty cell.Any e = absurd (omega arith)
same_cell cell.Black cell.Empty e = absurd (omega arith)
same_cell cell.Black cell.Black e = refl
same_cell cell.Black cell.White e = absurd (omega arith)
same_cell cell.Black cell.NotWhite e = absurd (omega arith)
same_cell cell.Black cell.NotBlack e = absurd (omega arith)
same_cell cell.Black cell.Any e = absurd (omega arith)
same_cell cell.White cell.Empty e = absurd (omega arith)
same_cell cell.White cell.Black e = absurd (omega arith)
same_cell cell.White cell.White e = refl
same_cell cell.White cell.NotWhite e = absurd (omega arith)
same_cell cell.White cell.NotBlack e = absurd (omega arith)
same_cell cell.White cell.Any e = absurd (omega arith)
same_cell cell.NotWhite cell.Empty e = absurd (omega arith)
same_cell cell.NotWhite cell.Black e = absurd (omega arith)
same_cell cell.NotWhite cell.White e = absurd (omega arith)
same_cell cell.NotWhite cell.NotWhite e = refl
same_cell cell.NotWhite cell.NotBlack e = absurd (omega arith)
same_cell cell.NotWhite cell.Any e = absurd (omega arith)
same_cell cell.NotBlack cell.Empty e = absurd (omega arith)
same_cell cell.NotBlack cell.Black e = absurd (omega arith)
same_cell cell.NotBlack cell.White e = absurd (omega arith)
same_cell cell.NotBlack cell.NotWhite e = absurd (omega arith)
same_cell cell.NotBlack cell.NotBlack e = refl
same_cell cell.NotBlack cell.Any e = absurd (omega arith)
same_cell cell.Any cell.Empty e = absurd (omega arith)
same_cell cell.Any cell.Black e = absurd (omega arith)
same_cell cell.Any cell.White e = absurd (omega arith)
same_cell cell.Any cell.NotWhite e = absurd (omega arith)
same_cell cell.Any cell.NotBlack e = absurd (omega arith)
same_cell cell.Any cell.Any e = refl

-- what holds of each cell
pub each_cell : (P : PatternCell → Type 0) → P cell.Empty → P cell.Black → P cell.White →
    P cell.NotWhite → P cell.NotBlack → P cell.Any → (c : PatternCell) → P c
each_cell P a b c d e f cell.Empty = a
each_cell P a b c d e f cell.Black = b
each_cell P a b c d e f cell.White = c
each_cell P a b c d e f cell.NotWhite = d
each_cell P a b c d e f cell.NotBlack = e
each_cell P a b c d e f cell.Any = f

-- a byte is that of a cell, or of none
pub cell_or_none : (byte : ℕ) → ((c : PatternCell) × (cell_byte c ≡ byte)) ⊎ ((c : PatternCell) → cell_byte c ≢ byte)
cell_or_none byte = elim (cases_eq byte dot) [
  | inl e ↦ inl (cell.Empty, sym e)
  | inr empty ↦ elim (cases_eq byte capital_x) [
    | inl e ↦ inl (cell.Black, sym e)
    | inr black ↦ elim (cases_eq byte capital_o) [
      | inl e ↦ inl (cell.White, sym e)
      | inr white ↦ elim (cases_eq byte small_x) [
        | inl e ↦ inl (cell.NotWhite, sym e)
        | inr not_white ↦ elim (cases_eq byte small_o) [
          | inl e ↦ inl (cell.NotBlack, sym e)
          | inr not_black ↦ elim (cases_eq byte star) [
            | inl e ↦ inl (cell.Any, sym e)
            | inr any ↦ inr (each_cell (λ c. cell_byte c ≢ byte)
                (λ e. empty (sym e))
                (λ e. black (sym e))
                (λ e. white (sym e))
                (λ e. not_white (sym e))
                (λ e. not_black (sym e))
                (λ e. any (sym e)))
          ]
        ]
      ]
    ]
  ]
]
