-- Definitions that contracts of public functions rest on.
pub mod Canonical
pub mod Entries
pub mod NextMoves
pub mod Games
pub mod Openings
-- Definitions of private functions.
pub mod Packing
pub mod Frames
pub mod Least
pub mod Turned
pub mod GameFrames
pub mod Groups
pub mod StoredGroups
pub mod StoredGames
pub mod GoneThrough
pub mod Keys
pub mod RowLists
pub mod OpeningTables
