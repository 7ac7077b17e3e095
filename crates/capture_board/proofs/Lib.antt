pub mod Captures
mod CellSetLemmas
pub mod Cells
pub mod ChangedPoints
pub mod Decisions
pub mod DeltaGrowth
pub mod DeltaPaths
pub mod Fills
pub mod FoundChanges
pub mod GroupLaws
pub mod HandMade
pub mod MadeChanges
pub mod Neighbours
pub mod NetChanges
pub mod Outcomes
pub mod PointSets
pub mod Rects
mod StoredDeltas
pub mod WalkerSteps
pub mod Walks
pub mod Writes
