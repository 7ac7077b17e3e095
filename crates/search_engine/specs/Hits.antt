-- The hits of a query in the games that a filter accepts: each game, node and placement where the
-- placement holds and did not hold at the node's parent, if the query looks at the node.
use Rattle.std.specs.Prelude.{◌≡◌, ℕ, ◌+◌, ◌≤◌, IsTrue, List, [], ◌∷◌, ◌++◌, length, Option, Some, None}
use Rattle.game_tree.specs.MainLine.{IsOnMainLine}
use Rattle.game_tree.specs.Result.{outcome_of}
use Rattle.game_tree.specs.Tree.{Tree, move_number_of}
use Rattle.capture_board.specs.Deltas.{Deltas}
use Rattle.pattern_images.specs.declared.hit.Hit.{Hit}
use Rattle.pattern_images.specs.declared.hit.Next.{Next}
use Rattle.pattern_images.specs.declared.query.Query.{Query}
use Rattle.pattern_images.specs.ImageList.{IsPlaceOf, placement_at}
use Rattle.pattern_images.specs.Placements.{ArePlacements, Placement}
use Rattle.pattern_images.specs.Query.{IsForBoard}
use Rattle.info_filter.specs.declared.filter.Filter.{Filter}
use Rattle.info_filter.specs.Filter.{Accepts}
use Rattle.pattern_occurrences.specs.declared.occurrence.Occurrence.{Occurrence}
use Rattle.pattern_occurrences.specs.Occurrences.{occurrences_in}
use Rattle.continuation_table.specs.Continuation.{IsContinuation}
use Rattle.node_position.specs.Games.{AreNodeChanges, Game}

-- The query looks at the node: the node is on the main line, if the query asks for that, and its
-- move number is within the query's bounds.
pub record LooksAt (query : Query) (tree : Tree) (n : ℕ) : Type 0 where
  pub main : IsTrue query.main → IsOnMainLine tree n
  pub from : query.from_move ≤ move_number_of tree n
  pub to : move_number_of tree n ≤ query.to_move

-- how the game goes on from a node where the placement holds, if it does
abbrev pub GoesOn : Tree → Deltas → Placement → ℕ → Option Next → Type 0
GoesOn tree changes placement n (Some next) = IsContinuation tree changes placement n next
GoesOn tree changes placement n None = (next : Next) →
    ¬ IsContinuation tree changes placement n next

-- the hit of an occurrence in the game with this number
pub record IsHit (number : ℕ) (tree : Tree) (changes : Deltas) (placements : List Placement)
    (o : Occurrence) (hit : Hit) : Type 0 where
  pub game : hit.game ≡ number
  pub node : hit.node ≡ o.node
  pub place : IsPlaceOf (placement_at placements o.placement) hit.place
  pub moves : hit.moves ≡ move_number_of tree o.node
  pub outcome : hit.outcome ≡ outcome_of tree.info.outcome_text
  pub next : GoesOn tree changes (placement_at placements o.placement) o.node hit.next

-- The hits of occurrences in a game: one for each at whose node the query looks, in their order.
pub data AreHitsOf (query : Query) (number : ℕ) (tree : Tree) (changes : Deltas)
    (placements : List Placement) : List Occurrence → List Hit → Type 0 where
  nothing : AreHitsOf query number tree changes placements [] []
  hit : {occurrences : List Occurrence} {hits : List Hit} (o : Occurrence) (hit : Hit) →
      AreHitsOf query number tree changes placements occurrences hits →
      LooksAt query tree o.node →
      IsHit number tree changes placements o hit →
      AreHitsOf query number tree changes placements (occurrences ++ o ∷ []) (hits ++ hit ∷ [])
  left_out : {occurrences : List Occurrence} {hits : List Hit} (o : Occurrence) →
      AreHitsOf query number tree changes placements occurrences hits →
      ¬ LooksAt query tree o.node →
      AreHitsOf query number tree changes placements (occurrences ++ o ∷ []) hits

-- The hits in the game with this number, where it is asked for: those of the occurrences of the
-- query's placements on the game's board, by node, and at one node in the order of the placements.
pub record AreHitsIn (query : Query) (number : ℕ) (tree : Tree) (hits : List Hit) : Type 0 where
  pub changes : Deltas
  pub are_changes : AreNodeChanges tree changes
  pub placements : List Placement
  pub are_placements : ArePlacements query tree.shape placements
  pub are_hits : AreHitsOf query number tree changes placements (occurrences_in changes placements)
      hits

-- a search asks for the game of this tree: its board is the query's, where the query names one, and
-- the filter accepts it
abbrev pub AsksFor : Query → Filter → Tree → Type 0
AsksFor query filter tree = IsForBoard query tree.shape × Accepts filter tree.info

-- the hits in the game with this number: none, if it isn't asked for
pub data AreGameHits (query : Query) (filter : Filter) (number : ℕ)
    (tree : Tree) : List Hit → Type 0 where
  asked : {hits : List Hit} → AsksFor query filter tree → AreHitsIn query number tree hits →
      AreGameHits query filter number tree hits
  not_asked : ¬ AsksFor query filter tree → AreGameHits query filter number tree []

-- the hits in games, which are numbered from a first number on, in order of the games
pub data AreHitsFrom (first : ℕ) (query : Query)
    (filter : Filter) : List Game → List Hit → Type 0 where
  nothing : AreHitsFrom first query filter [] []
  one_more : {games : List Game} {hits : List Hit} (game : Game) (more : List Hit) →
      AreHitsFrom first query filter games hits →
      AreGameHits query filter (first + length games) game.tree more →
      AreHitsFrom first query filter (games ++ game ∷ []) (hits ++ more)

-- the hits in the games of a version, which are numbered from 0
abbrev pub AreHits : Query → Filter → List Game → List Hit → Type 0
AreHits query filter games hits = AreHitsFrom 0 query filter games hits
