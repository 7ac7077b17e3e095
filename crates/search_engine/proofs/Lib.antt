mod AddedHits
mod CutLists
mod FoundHits
mod GameBits
mod GameHits
mod GamesSearched
mod GatheredBlocks
mod GatheredLists
mod ReadyOnShapes
mod ItemLists
mod NodesVisited
mod HitsKept
pub mod KeptCounts
mod KeptNumbers
mod HitTriples
pub mod NumberedLists
mod TriplesOfGames
mod KeptGames
mod KeptBits
mod KeptBlocks
mod PossibleGames
mod Gathering
mod GoingOn
pub mod ToldKept
mod JoinedPieces
mod BlocksSearched
mod SameShapes
mod SeveralAnswers
mod ShapesSought
mod StepsTaken
mod TreeChanges
mod VersionGames
pub mod WhereFound
pub mod HitParts
pub mod HitsExist
pub mod OneListOfHits
pub mod OrderedGames
