-- Definitions that contracts of public functions rest on.
pub mod CornerGames
pub mod Corners
-- Definitions of private functions.
pub mod Entries
pub mod Keys
