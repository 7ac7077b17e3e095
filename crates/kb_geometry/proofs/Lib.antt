pub mod Lists
pub mod Pieces
pub mod Prefixes
pub mod Setups
pub mod Shapes
pub mod Symmetries
