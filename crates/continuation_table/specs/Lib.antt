-- Definitions that contracts of public functions rest on.
pub mod Continuation
pub mod Places
pub mod Table
-- Definitions of private functions.
pub mod Counting
pub mod Descending
pub mod Rebuilding
