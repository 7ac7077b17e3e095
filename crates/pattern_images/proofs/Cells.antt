-- What a test of two pattern cells tells.
use Rattle.std.proofs.Common.{◌≡◌, true, refl}
use Rattle.std.specs.Bool.{Decides}
use Rattle.pattern_images.specs.declared.cell.PatternCell.{PatternCell}
use Rattle.pattern_images.specs.declared.cell.PatternCell.TheVariants.{Empty, Black, White, NotWhite, NotBlack, Any}
use Rattle.pattern_images.specs.contracts.cell.PatternCell.{the_type}
use denote.Enum.Bare.{sameb}

pub same_cell : (a b : PatternCell) → sameb the_type a b ≡ true → a ≡ b
same_cell Empty Empty e = refl
same_cell Empty Black e = cc
same_cell Empty White e = cc
same_cell Empty NotWhite e = cc
same_cell Empty NotBlack e = cc
same_cell Empty Any e = cc
same_cell Black Empty e = cc
same_cell Black Black e = refl
same_cell Black White e = cc
same_cell Black NotWhite e = cc
same_cell Black NotBlack e = cc
same_cell Black Any e = cc
same_cell White Empty e = cc
same_cell White Black e = cc
same_cell White White e = refl
same_cell White NotWhite e = cc
same_cell White NotBlack e = cc
same_cell White Any e = cc
same_cell NotWhite Empty e = cc
same_cell NotWhite Black e = cc
same_cell NotWhite White e = cc
same_cell NotWhite NotWhite e = refl
same_cell NotWhite NotBlack e = cc
same_cell NotWhite Any e = cc
same_cell NotBlack Empty e = cc
same_cell NotBlack Black e = cc
same_cell NotBlack White e = cc
same_cell NotBlack NotWhite e = cc
same_cell NotBlack NotBlack e = refl
same_cell NotBlack Any e = cc
same_cell Any Empty e = cc
same_cell Any Black e = cc
same_cell Any White e = cc
same_cell Any NotWhite e = cc
same_cell Any NotBlack e = cc
same_cell Any Any e = refl

sameb_self : (a : PatternCell) → sameb the_type a a ≡ true
sameb_self Empty = refl
sameb_self Black = refl
sameb_self White = refl
sameb_self NotWhite = refl
sameb_self NotBlack = refl
sameb_self Any = refl

pub Decides-cell : (a b : PatternCell) → Decides (sameb the_type a b) (a ≡ b)
Decides-cell a b = (same_cell a b, λ e. let self = sameb_self a in cc)
