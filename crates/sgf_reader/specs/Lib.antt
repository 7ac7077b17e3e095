-- Definitions that contracts of public functions rest on.
pub mod Bytes
pub mod Faults
pub mod Grammar
pub mod Limits
-- Definitions of private functions.
pub mod Flat
pub mod Reading
pub mod Scan
pub mod Stays
pub mod Turn
