-- Definitions that contracts of public functions rest on.
pub mod Answers
pub mod HitNodes
pub mod Hits
pub mod KeptGames
pub mod Numbered
pub mod Triples
-- Definitions of private functions.
pub mod BlockCandidates
pub mod KeptBlocks
pub mod Gathering
pub mod ImagesMade
pub mod Items
pub mod Searching
pub mod Several
pub mod StepBounds
