mod Errors
mod Faults
mod TextLines
mod PlacedLists
mod ReadOutside
mod ReadInside
pub mod Quoted
pub mod LineWords
pub mod Numbers
pub mod SearchWords
pub mod PatternWords
pub mod SearchBodies
pub mod LineStatements
pub mod ToldWords
pub mod OnePattern
pub mod ToldSearches
pub mod ToldConditions
pub mod FilteredBodies
pub mod KeptBodies
pub mod OpeningWords
pub mod NamedBodies
pub mod ToldStatements
pub mod SomeStatements
pub mod OneList
mod PlayerRows
mod JoinedConditions
mod LongWords
mod OptionWords
mod OptionLists
mod LawfulWords
