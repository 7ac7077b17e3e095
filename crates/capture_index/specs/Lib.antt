-- Definitions that contracts of public functions rest on.
pub mod NodePositions
pub mod Stretches
-- Definitions of private functions.
pub mod Begins
pub mod Branches
pub mod Building
pub mod Finding
pub mod Hulls
pub mod Links
pub mod Lists
pub mod Narrowing
pub mod Packing
pub mod Runs
pub mod Seen
pub mod Times
