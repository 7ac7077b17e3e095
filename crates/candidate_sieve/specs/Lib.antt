-- Definitions that contracts of public functions rest on.
pub mod Candidates
pub mod Kept
pub mod NodeCandidates
pub mod Ordered
-- Definitions of private functions.
pub mod BlockGames
pub mod Noting
pub mod KeptWords
