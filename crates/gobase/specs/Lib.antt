-- Definitions of private functions.
pub mod ExitCodes
