-- Definitions that contracts of public functions rest on.
pub mod Tallies
pub mod Boxes
pub mod Reports
pub mod Counters
-- Definitions of private functions.
pub mod Finding
