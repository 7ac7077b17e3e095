pub mod GivenNodes
pub mod HoldsLaw
pub mod OccurrenceLaw
mod Ranges
