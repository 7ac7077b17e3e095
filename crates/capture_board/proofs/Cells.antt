-- What a test of two cells tells.
use Rattle.std.proofs.Common.{◌≡◌, ◌≢◌, ◌⊎◌, inl, inr, true, false, refl}
use Rattle.std.proofs.lemmas.Bool.{cases_Bool}
use Rattle.kb_geometry.specs.declared.stone.Cell.{Cell}
use Rattle.kb_geometry.specs.declared.stone.Cell.TheVariants.{Empty, Black, White}
use Rattle.kb_geometry.specs.contracts.stone.Cell.{the_type}
use denote.Enum.Bare.{sameb}

pub same_cell : (a b : Cell) → sameb the_type a b ≡ true → a ≡ b
same_cell Empty Empty e = refl
same_cell Empty Black e = cc
same_cell Empty White e = cc
same_cell Black Empty e = cc
same_cell Black Black e = refl
same_cell Black White e = cc
same_cell White Empty e = cc
same_cell White Black e = cc
same_cell White White e = refl

sameb_self : (a : Cell) → sameb the_type a a ≡ true
sameb_self Empty = refl
sameb_self Black = refl
sameb_self White = refl

pub other_cell : (a b : Cell) → sameb the_type a b ≡ false → a ≢ b
other_cell a b e s = let self = sameb_self a in cc

-- two cells are the same or not
pub cases_cell : (a b : Cell) → (a ≡ b) ⊎ (a ≢ b)
cases_cell a b = elim (cases_Bool (sameb the_type a b)) [ inl e ↦ inl (same_cell a b e) | inr e ↦ inr (other_cell a b e) ]
