-- Definitions that contracts of public functions rest on.
pub mod Bases
pub mod Run
pub mod Stopped
-- Definitions of private functions.
pub mod Beside
pub mod Seen
