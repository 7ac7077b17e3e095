-- Definitions that contracts of public functions rest on.
pub mod Corners
pub mod Pairs
pub mod Prepared
pub mod Ready
pub mod Rows
pub mod Wants
-- Definitions of private functions.
pub mod Placing
pub mod Stored
pub mod StoredCorners
pub mod StoredWants
