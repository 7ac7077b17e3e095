-- Definitions that contracts of public functions rest on.
pub mod Answers
pub mod Doubles
pub mod ImportTexts
pub mod Lawful
pub mod OpeningLines
pub mod SessionState
pub mod Signed
pub mod Sources
pub mod Stores
pub mod Watches
-- Definitions of private functions.
pub mod Listing
pub mod Grouping
pub mod Watching
