-- Definitions that contracts of public functions rest on.
pub mod Blocks
pub mod BoardShapes
pub mod CornersOfGames
pub mod Finished
pub mod Nodes
pub mod Orders
pub mod Planes
