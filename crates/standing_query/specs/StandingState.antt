-- What contracts see of a standing query.
use Rattle.std.specs.Prelude.{ℕ, List}
use Rattle.pattern_images.specs.declared.hit.Hit.{Hit}

-- the number of the version that it was advanced to last, how many games that version has, and the
-- hits in them
pub record StandingState : Type 0 where
  pub number : ℕ
  pub games : ℕ
  pub hits : List Hit
