-- Definitions that contracts of public functions rest on.
pub mod FoundOccurrences
-- Definitions of private functions.
pub mod Areas
pub mod Begins
pub mod Concerned
pub mod GridRows
pub mod Masks
pub mod Matchers
pub mod Nodes
pub mod StoredRows
pub mod Visits
