-- Definitions that contracts of public functions rest on.
pub mod Games
pub mod Positions
-- Definitions of private functions.
pub mod Standing
