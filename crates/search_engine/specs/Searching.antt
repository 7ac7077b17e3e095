-- Definitions of the private functions that search.
use Rattle.std.specs.Prelude.{◌≡◌, ℕ, ◌*◌, ◌<◌, ◌≤◌, All, Contains, List, [], ◌++◌, length, slice_index_or, take, IfOk}
use Rattle.std.specs.Fork.{slice_chunk}
use Rattle.kb_geometry.specs.declared.shape.Shape.{Shape}
use Rattle.kb_geometry.specs.Pieces.{PieceOf}
use Rattle.node_position.specs.Games.{Game}
use Rattle.pattern_images.specs.declared.hit.Hit.{Hit}
use Rattle.pattern_images.specs.declared.query.Query.{Query}
use Rattle.pattern_images.specs.Query.{IsForBoard}
use Rattle.info_filter.specs.declared.filter.Filter.{Filter}
use Rattle.search_engine.specs.declared.item.Item.{Item}
use Rattle.search_engine.specs.Hits.{AreHitsFrom}
use Rattle.search_engine.specs.Items.{AreNumberedFrom, games_of_items}

-- the list grows by hits of which this is true
pub record AreHitsAdded (are : List Hit → Type 0) (old new : List Hit) : Type 0 where
  pub more : List Hit
  pub added : new ≡ old ++ more
  pub are_hits : are more

-- the shape is among these, if the query looks on boards of it
abbrev pub IsCovered : Query → List Shape → Shape → Type 0
IsCovered query shapes shape = IsForBoard query shape → Contains shapes shape

-- among these shapes are those of the boards of all games on whose boards the query looks
abbrev pub AreCovered : Query → List Shape → List Game → Type 0
AreCovered query shapes games = All (λ (g : Game). IsCovered query shapes g.tree.shape) games

-- Shapes are added: those of these that aren't there yet and on which the query looks.
pub record AreShapesAdded (query : Query) (shapes old new : List Shape) : Type 0 where
  pub kept : (s : Shape) → Contains old s → Contains new s
  pub added : (s : Shape) → Contains shapes s → IsCovered query new s

-- hits are added: those of the games of these blocks, if they are numbered from some number on, and
-- if the shapes are those of their boards
abbrev pub AreItemHitsAdded : Query → Filter → List Shape → List Item → List Hit → List Hit → Type 0
AreItemHitsAdded query filter shapes items old new =
    (first : ℕ) → AreNumberedFrom first items → AreCovered query shapes (games_of_items items) →
    AreHitsAdded (AreHitsFrom first query filter (games_of_items items)) old new

-- the same of the first so many blocks alone
abbrev pub AreFirstHitsAdded : Query → Filter → List Shape → List Item → ℕ → List Hit → List Hit →
    Type 0
AreFirstHitsAdded query filter shapes items count old new =
    (first : ℕ) → AreNumberedFrom first items → AreCovered query shapes (games_of_items items) →
    AreHitsAdded (AreHitsFrom first query filter (games_of_items (take count items))) old new

-- a piece of a search has the hits of the games of these blocks
abbrev pub IsPiece : Query → Filter → List Shape → List Item → PieceOf Hit → Type 0
IsPiece query filter shapes items piece =
    IfOk piece (λ hits. AreItemHitsAdded query filter shapes items [] hits.items)

-- There is a piece for each chunk of so many blocks.
pub record AreAllPieces (query : Query) (filter : Filter) (shapes : List Shape) (items : List Item)
    (size : ℕ) (pieces : List (PieceOf Hit)) : Type 0 where
  pub all : length items ≤ length pieces * size
  pub each : (n : ℕ) (d : PieceOf Hit) → n < length pieces →
      IsPiece query filter shapes (slice_chunk items size n) (slice_index_or pieces n d)
