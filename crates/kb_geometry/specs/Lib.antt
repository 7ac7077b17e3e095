-- Definitions that contracts of public functions rest on.
pub mod Board
pub mod Capture
pub mod Counts
pub mod Outcomes
pub mod Pieces
pub mod Side
pub mod Symmetry
