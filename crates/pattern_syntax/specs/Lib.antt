-- Definitions that contracts of public functions rest on.
pub mod Faults
pub mod Text
-- Definitions of private functions.
pub mod Reading
