pub mod Ascending
mod JoinedWords
mod OneBit
mod Readings
mod Unions
mod Subsets
mod Fronts
mod Counts
mod Nexts
mod Shifts
mod Sameness
mod Windows
pub mod Enumerations
