pub mod EachTree
pub mod Following
pub mod OneChange
pub mod OnePosition
pub mod Returning
pub mod Setups
