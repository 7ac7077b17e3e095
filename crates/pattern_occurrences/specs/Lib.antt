-- Definitions that contracts of public functions rest on.
pub mod Occurrences
