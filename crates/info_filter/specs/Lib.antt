-- Definitions that contracts of public functions rest on.
pub mod Day
pub mod Filter
pub mod Players
pub mod Rows
pub mod SidesCounted
-- Definitions of private functions.
pub mod DateParts
pub mod Seats
