mod StoredBuilds
mod StoredGrowth
mod StoredTrees
pub mod Branchings
pub mod BuiltGames
pub mod Climbs
pub mod Colons
pub mod GameFaults
pub mod Growth
pub mod HungTrees
pub mod Lines
pub mod MainLines
mod NodeChoices
pub mod NodeValues
pub mod OneFault
pub mod OneText
pub mod OneTree
pub mod Parts
pub mod Passes
pub mod Paths
pub mod Properties
pub mod Ranges
pub mod ReadCollections
pub mod ReadTrees
pub mod ReadValues
pub mod Roots
pub mod SecondMoves
pub mod SimpleTexts
pub mod Splits
pub mod Subtrees
pub mod TextBlocks
mod TextChoices
pub mod Trees
pub mod TreesOrFault
pub mod Trimming
mod ValueChoices
pub mod Values
pub mod WholeCollections
pub mod WholeGames
