-- Definitions that contracts of public functions rest on.
pub mod Finding
pub mod StandingState
-- Definitions of private functions.
pub mod NewGames
