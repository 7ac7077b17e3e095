-- Definitions that contracts of public functions rest on.
pub mod Grid
pub mod Holds
pub mod ImageList
pub mod Pattern
pub mod Placements
pub mod Query
-- Definitions of private functions.
pub mod Listing
pub mod Stored
pub mod Turned
pub mod Turns
