-- What a finder finds: which list of hits belongs to a list of games that are numbered from a first
-- number on. These definitions speak of such a relation between a number, games and hits.
use Rattle.std.specs.Prelude.{◌≡◌, ℕ, ◌+◌, ◌↔◌, All, List, ◌++◌, length}
use Rattle.game_tree.specs.Tree.{IsTree}
use Rattle.node_position.specs.Games.{Game}
use Rattle.pattern_images.specs.declared.hit.Hit.{Hit}

-- games with trees have a list of hits
abbrev pub HasList : (ℕ → List Game → List Hit → Type 0) → Type 0
HasList finds = (first : ℕ) (games : List Game) → All (λ (g : Game). IsTree g.tree) games →
    (hits : List Hit) × finds first games hits

-- and no other one
abbrev pub HasOneList : (ℕ → List Game → List Hit → Type 0) → Type 0
HasOneList finds = (first : ℕ) (games : List Game) (a b : List Hit) →
    All (λ (g : Game). IsTree g.tree) games → finds first games a → finds first games b → a ≡ b

-- the hits of games in two parts are those of the first part, and then those of the second one,
-- whose games are numbered on
abbrev pub GoesByParts : (ℕ → List Game → List Hit → Type 0) → Type 0
GoesByParts finds = (first : ℕ) (games more : List Game) (hits others : List Hit) →
    finds first games hits → finds (first + length games) more others →
    finds first (games ++ more) (hits ++ others)

-- one finds what the other finds
abbrev pub AreSame : (ℕ → List Game → List Hit → Type 0) → (ℕ → List Game → List Hit → Type 0) →
    Type 0
AreSame one other = (first : ℕ) (games : List Game) (hits : List Hit) →
    one first games hits ↔ other first games hits
