-- The signatures of games, and the games whose signature matches a pattern.
use Rattle.std.specs.Prelude.{ℕ, ◌<◌, ◌↔◌, List, [], ◌∷◌, ◌++◌, length, AllPairs, Contains}
use Rattle.game_tree.specs.Tree.{Tree}
use Rattle.dyer_signature.specs.Images.{IsCanonicalForm}
use Rattle.dyer_signature.specs.Patterns.{Matches}
use Rattle.dyer_signature.specs.Signatures.{IsSignatureOf}
use Rattle.node_position.specs.Games.{Game}
use Rattle.search_engine.specs.Numbered.{IsNumbered}

-- the signature of a game, and its canonical form
pub record HasSignature (tree : Tree) (signature form : List ℕ) : Type 0 where
  pub of_tree : IsSignatureOf tree signature
  pub canonical : IsCanonicalForm tree.shape signature form

-- a game that was found by its signature: its number, and the canonical form
pub record FoundGame : Type 0 where
  pub game : ℕ
  pub form : List ℕ

-- The games whose signature matches a pattern, in order. They are numbered from 0.
pub data AreGamesFound (pattern : List ℕ) : List Game → List FoundGame → Type 0 where
  nothing : AreGamesFound pattern [] []
  found : {games : List Game} {found : List FoundGame} (game : Game)
      (signature form : List ℕ) →
      AreGamesFound pattern games found →
      HasSignature game.tree signature form →
      Matches game.tree.shape signature pattern →
      AreGamesFound pattern (games ++ game ∷ [])
      (found ++ record { game = length games; form = form } ∷ [])
  left_out : {games : List Game} {found : List FoundGame} (game : Game)
      (signature form : List ℕ) →
      AreGamesFound pattern games found →
      HasSignature game.tree signature form →
      ¬ Matches game.tree.shape signature pattern →
      AreGamesFound pattern (games ++ game ∷ []) found

-- the signature of the game of this tree matches the pattern, and has this canonical form
pub record MatchesWith (pattern : List ℕ) (tree : Tree) (form : List ℕ) : Type 0 where
  pub signature : List ℕ
  pub signed : HasSignature tree signature form
  pub matches : Matches tree.shape signature pattern

-- Found are exactly the numbers of the games whose signature matches the pattern, ascending, each
-- with the canonical form of its game.
pub record AreAllGamesFound (pattern : List ℕ) (games : List Game) (found : List FoundGame)
    : Type 0 where
  pub exactly : (f : FoundGame) → Contains found f
      ↔ ((game : Game) × IsNumbered games f.game game × MatchesWith pattern game.tree f.form)
  pub ascending : AllPairs (λ (a b : FoundGame). a.game < b.game) found
