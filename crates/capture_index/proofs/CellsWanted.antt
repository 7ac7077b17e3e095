-- What cells of a pattern want of points.
use Rattle.std.proofs.Common.{◌≡◌, ◌↔◌, Bool, true, false, not, refl, sym, arith}
use Rattle.std.proofs.lemmas.Bool.{false≢true}
use Rattle.kb_geometry.specs.declared.stone.Cell.{Cell}
use Rattle.kb_geometry.specs.declared.stone.Cell.TheVariants as stone
use Rattle.pattern_images.specs.declared.cell.PatternCell.{PatternCell}
use Rattle.pattern_images.specs.declared.cell.PatternCell.TheVariants as kind
use Rattle.pattern_images.specs.Holds.{Allows}
use Rattle.ready_images.specs.Wants.{IsOfRank, rank_of}
use Rattle.ready_images.specs.declared.want.Want.{Want}
use Rattle.capture_index.specs.Stretches.{is_allowed, is_wanted}

-- the want is that of a stone of one colour
abbrev pub IsOfStone : Want → Type 0
IsOfStone want = (is_wanted want stone.Empty ≡ false) × (is_wanted want stone.Black ≡ not (is_wanted want stone.White))

-- the want is that of an empty point alone
abbrev pub IsOfEmpty : Want → Type 0
IsOfEmpty want = (is_wanted want stone.Empty ≡ true) × (is_wanted want stone.Black ≡ false) × (is_wanted want stone.White ≡ false)

stone-cell : (c : PatternCell) → rank_of c ≡ 0 → (is_allowed c stone.Empty ≡ false) × (is_allowed c stone.Black ≡ not (is_allowed c stone.White))
stone-cell kind.Black is = (refl, refl)
stone-cell kind.White is = (refl, refl)
stone-cell kind.NotWhite is = absurd (omega (arith, is))
stone-cell kind.NotBlack is = absurd (omega (arith, is))
stone-cell kind.Empty is = absurd (omega (arith, is))
stone-cell kind.Any is = absurd (omega (arith, is))

empty-cell : (c : PatternCell) → rank_of c ≡ 2 → (is_allowed c stone.Empty ≡ true) × (is_allowed c stone.Black ≡ false) × (is_allowed c stone.White ≡ false)
empty-cell kind.Empty is = (refl, refl, refl)
empty-cell kind.Black is = absurd (omega (arith, is))
empty-cell kind.White is = absurd (omega (arith, is))
empty-cell kind.NotWhite is = absurd (omega (arith, is))
empty-cell kind.NotBlack is = absurd (omega (arith, is))
empty-cell kind.Any is = absurd (omega (arith, is))

pub of-stone : (want : Want) → IsOfRank 0 want → IsOfStone want
of-stone want is = stone-cell want.cell is

pub of-empty : (want : Want) → IsOfRank 2 want → IsOfEmpty want
of-empty want is = empty-cell want.cell is

-- the same by the words of patterns
pub allowed-wanted : (c : PatternCell) (s : Cell) → (is_allowed c s ≡ true) ↔ Allows c s
allowed-wanted kind.Empty stone.Empty = (λ t. refl, λ a. refl)
allowed-wanted kind.Empty stone.Black = (λ t. absurd (false≢true t), λ a. absurd cc)
allowed-wanted kind.Empty stone.White = (λ t. absurd (false≢true t), λ a. absurd cc)
allowed-wanted kind.Black stone.Empty = (λ t. absurd (false≢true t), λ a. absurd cc)
allowed-wanted kind.Black stone.Black = (λ t. refl, λ a. refl)
allowed-wanted kind.Black stone.White = (λ t. absurd (false≢true t), λ a. absurd cc)
allowed-wanted kind.White stone.Empty = (λ t. absurd (false≢true t), λ a. absurd cc)
allowed-wanted kind.White stone.Black = (λ t. absurd (false≢true t), λ a. absurd cc)
allowed-wanted kind.White stone.White = (λ t. refl, λ a. refl)
allowed-wanted kind.NotWhite stone.Empty = (λ t e. absurd cc, λ a. refl)
allowed-wanted kind.NotWhite stone.Black = (λ t e. absurd cc, λ a. refl)
allowed-wanted kind.NotWhite stone.White = (λ t. absurd (false≢true t), λ a. absurd (a refl))
allowed-wanted kind.NotBlack stone.Empty = (λ t e. absurd cc, λ a. refl)
allowed-wanted kind.NotBlack stone.Black = (λ t. absurd (false≢true t), λ a. absurd (a refl))
allowed-wanted kind.NotBlack stone.White = (λ t e. absurd cc, λ a. refl)
allowed-wanted kind.Any s = (λ t. tt, λ a. refl)

-- two tests that tell the same
pub same-truth : (a b : Bool) → (a ≡ true → b ≡ true) → (b ≡ true → a ≡ true) → a ≡ b
same-truth true b to from = sym (to refl)
same-truth false true to from = from refl
same-truth false false to from = refl
