-- Definitions that contracts of public functions rest on.
pub mod Information
pub mod Line
pub mod MainLine
pub mod Position
pub mod Property
pub mod Result
pub mod SimpleText
pub mod Tree
pub mod Trees
pub mod Value
pub mod ValueFaults
-- Definitions of private functions.
pub mod Built
pub mod GameFaults
pub mod NodeValues
pub mod RawGames
pub mod Roots
pub mod Stored
pub mod StoredInfo
