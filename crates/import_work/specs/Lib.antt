-- Definitions that contracts of public functions rest on.
pub mod Batches
pub mod Course
pub mod Imports
pub mod Log
pub mod Made
pub mod Outcome
pub mod Rooms
-- Definitions of private functions alone.
pub mod Found
pub mod ImportFields
pub mod Judged
pub mod Listings
pub mod MadePieces
pub mod Parsed
pub mod Pieces
pub mod Reads
pub mod Steps
