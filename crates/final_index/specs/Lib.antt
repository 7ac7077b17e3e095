-- Definitions that contracts of public functions rest on.
pub mod Ever
pub mod Order
pub mod Planes
-- Definitions of private functions.
pub mod Gathering
pub mod OrderWords
pub mod PlaneWords
pub mod Spans
