-- Definitions that contracts of public functions rest on.
pub mod Merged
pub mod Publishing
pub mod Stores
-- Definitions of private functions.
pub mod Awaited
pub mod Published
