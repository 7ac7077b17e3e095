-- Definitions that contracts of public functions rest on.
pub mod ReadBack
pub mod Written
-- Definitions of private functions.
pub mod Letters
pub mod Parts
pub mod Walk
