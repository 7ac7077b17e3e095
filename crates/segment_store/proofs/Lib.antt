mod GamesInBlocks
mod GamesOfPlanes
mod OneTree
mod OrdersOfGames
mod ShapesOfGames
pub mod CornersOfGames
pub mod VersionGames
