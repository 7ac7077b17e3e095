-- Definitions that contracts of public functions rest on.
pub mod Bytes
pub mod CommandWords
pub mod Conditions
pub mod Script
pub mod Search
pub mod Statements
pub mod Texts
pub mod Words
-- Definitions of private functions.
pub mod CommandLine
pub mod Lines
pub mod Pieces
pub mod Progress
pub mod Reading
