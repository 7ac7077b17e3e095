-- What is gathered of the games of a block, while its planes are gone over: definitions of the
-- private functions that search a block.
use Rattle.std.specs.Prelude.{◌≡◌, ℕ, ◌<◌, ◌≤◌, ◌⊎◌, ◌↔◌, [], Contains, List, Some, slice_index_or}
use Rattle.std.specs.Int.{bit_at}
use Rattle.std.specs.List.{slice_get}
use Rattle.kb_geometry.specs.declared.shape.Shape.{Shape}
use Rattle.game_tree.specs.Tree.{Tree}
use Rattle.capture_board.specs.Deltas.{Deltas}
use Rattle.node_position.specs.Games.{AreNodeChanges, Game}
use Rattle.pattern_images.specs.declared.query.Query.{Query}
use Rattle.pattern_images.specs.Placements.{ArePlacements, Placement}
use Rattle.info_filter.specs.declared.filter.Filter.{Filter}
use Rattle.info_filter.specs.Filter.{Accepts}
use Rattle.pattern_occurrences.specs.declared.occurrence.Occurrence.{Occurrence}
use Rattle.pattern_occurrences.specs.Occurrences.{occurrences_in}
use Rattle.final_index.specs.Planes.{PlaneGames}
use Rattle.candidate_sieve.specs.declared.candidates.Candidate.{Candidate}
use Rattle.run_matcher.specs.GoingOn.{GoesOnToHold, occurrences_of}
use Rattle.run_matcher.specs.PlacementOccurrences.{IsOccurrenceOf}
use Rattle.run_matcher.specs.declared.begun.Begun.{Begun}
use Rattle.search_engine.specs.BlockCandidates.{candidate_at}

-- ---- the list of one game

-- the occurrence is one of the query's placements on the game's board
abbrev pub OccursIn : Query → Tree → Deltas → Occurrence → Type 0
OccursIn query tree changes o = (placements : List Placement) →
    ArePlacements query tree.shape placements → Contains (occurrences_in changes placements) o

-- the list has exactly the occurrences in the game, if the filter accepts it and its board's shape
-- is among these, and none else
abbrev pub HasOccurrences : Query → Filter → List Shape → Tree → List Occurrence → Type 0
HasOccurrences query filter shapes tree gathered =
    (changes : Deltas) → AreNodeChanges tree changes → (o : Occurrence) → Contains gathered o
    ↔ (Accepts filter tree.info × Contains shapes tree.shape × OccursIn query tree changes o)

-- these are the occurrences in the game, in order
abbrev pub AreOccurrencesIn : Query → Tree → List Occurrence → Type 0
AreOccurrencesIn query tree occurrences = (changes : Deltas) (placements : List Placement) →
    AreNodeChanges tree changes → ArePlacements query tree.shape placements →
    occurrences ≡ occurrences_in changes placements

-- as far as is known, each of these placements goes on to hold in the game
abbrev pub GoOnIn : Query → Tree → List Begun → Type 0
GoOnIn query tree begun = (changes : Deltas) (placements : List Placement) →
    AreNodeChanges tree changes → ArePlacements query tree.shape placements → (b : Begun) →
    Contains begun b → GoesOnToHold changes placements b

-- ---- the lists of a block's games

-- the list of the game at a place
abbrev pub begun_at : List (List Begun) → ℕ → List Begun
begun_at lists g = slice_index_or lists g []

-- the occurrences in it
abbrev pub gathered_of : List (List Begun) → ℕ → List Occurrence
gathered_of lists g = occurrences_of (begun_at lists g)

-- the list of each game behind the first `skip` has exactly its occurrences, if the filter accepts it
-- and its board's shape is among these, and none else
abbrev pub HaveOccurrences : Query → Filter → List Shape → ℕ → List Game → List (List Begun) →
    Type 0
HaveOccurrences query filter shapes skip games lists = (g : ℕ) (game : Game) → skip ≤ g →
    slice_get games g ≡ Some game →
    HasOccurrences query filter shapes game.tree (gathered_of lists g)

-- each game on whose place the candidate has a bit is there, on a board of the shape
abbrev pub AreOnBoards : List Game → Shape → Candidate → Type 0
AreOnBoards games shape c = (g : ℕ) → g < 64 → bit_at c.games g ≡ 1 →
    (game : Game) × (slice_get games g ≡ Some game) × (game.tree.shape ≡ shape)

-- the list of each game gains exactly the occurrences of which this is true
abbrev pub AreGathered : List Game → (ℕ → Tree → Deltas → Occurrence → Type 0) →
    List (List Begun) → List (List Begun) → Type 0
AreGathered games are old new = (g : ℕ) (game : Game) → slice_get games g ≡ Some game →
    (changes : Deltas) → AreNodeChanges game.tree changes → (o : Occurrence) →
    Contains (gathered_of new g) o ↔ (Contains (gathered_of old g) o ⊎ are g game.tree changes o)

-- the game has a place before the end on which the candidate has a bit, and the occurrence is one
-- of its placement
abbrev pub IsOfCandidate : List Placement → Candidate → ℕ → ℕ → Tree → Deltas → Occurrence → Type 0
IsOfCandidate placements c end g tree changes o = (g < end) × (bit_at c.games g ≡ 1)
    × IsOccurrenceOf changes placements c.placement o

-- one of the first so many candidates has a bit for the game, and the occurrence is one of its
-- placement
abbrev pub IsOfCandidates : List Placement → List Candidate → ℕ → ℕ → Tree → Deltas → Occurrence →
    Type 0
IsOfCandidates placements found k g tree changes o = (j : ℕ) × (j < k)
    × (bit_at (candidate_at found j).games g ≡ 1)
    × IsOccurrenceOf changes placements (candidate_at found j).placement o

-- the game is one of these, its board has the shape, which is one of those that are looked at, and
-- the occurrence is one in the game
abbrev pub IsOnShape : Query → List Shape → ℕ → Shape → ℕ → Tree → Deltas → Occurrence → Type 0
IsOnShape query shapes among shape g tree changes o = (bit_at among g ≡ 1) × (tree.shape ≡ shape)
    × Contains shapes tree.shape × OccursIn query tree changes o

-- the same with the shape of one of the first so many planes
abbrev pub IsOnPlanes : Query → List Shape → ℕ → List PlaneGames → ℕ → ℕ → Tree → Deltas →
    Occurrence → Type 0
IsOnPlanes query shapes among planes k g tree changes o = (j : ℕ) × (p : PlaneGames) × (j < k)
    × (slice_index_or planes j p ≡ p) × IsOnShape query shapes among p.shape g tree changes o

-- ---- how far what is gathered goes on to hold

-- what the list of each game has goes on to hold there, as far as is known
abbrev pub AllGoOn : Query → List Game → List (List Begun) → Type 0
AllGoOn query games lists = (g : ℕ) (game : Game) → slice_get games g ≡ Some game →
    GoOnIn query game.tree (begun_at lists g)

-- what the list of a game gains is of a game on a board of the shape, and goes on to hold there, as
-- far as is known
abbrev pub MoreGoOn : List Game → Shape → List Placement → List (List Begun) → List (List Begun) →
    Type 0
MoreGoOn games shape placements old new = (g : ℕ) (game : Game) → slice_get games g ≡ Some game →
    (changes : Deltas) → AreNodeChanges game.tree changes → (b : Begun) →
    Contains (begun_at new g) b → Contains (begun_at old g) b
    ⊎ ((game.tree.shape ≡ shape) × GoesOnToHold changes placements b)
