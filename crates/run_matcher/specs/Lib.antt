-- Definitions that contracts of public functions rest on.
pub mod GoingOn
pub mod PlacementOccurrences
-- Definitions of private functions.
pub mod Begins
pub mod Keys
