-- Definitions of the private functions that find the hits in the new games of a version.
use Rattle.std.specs.Prelude.{◌≡◌, ℕ, List, drop, length}
use Rattle.node_position.specs.Games.{Game}
use Rattle.pattern_images.specs.declared.hit.Hit.{Hit}

-- So many games were gone over, and these are the hits in those of them that stand behind the first
-- `covered` ones.
pub record AreFoundTo (finds : ℕ → List Game → List Hit → Type 0) (covered : ℕ)
    (games : List Game) (count : ℕ) (hits : List Hit) : Type 0 where
  pub counted : count ≡ length games
  pub found : finds covered (drop covered games) hits
