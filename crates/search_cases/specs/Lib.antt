-- Definitions of private functions.
pub mod Watching
