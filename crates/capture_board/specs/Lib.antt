-- Definitions that contracts of public functions rest on.
pub mod Board
pub mod Changes
pub mod Deltas
pub mod PointSet
pub mod Walking
-- Definitions of private functions.
pub mod ChangedPoints
pub mod Runs
pub mod StoredDeltas
pub mod StoredWalking
pub mod WholeGroups
