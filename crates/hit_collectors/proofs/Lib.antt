pub mod Counts
pub mod FedBoxes
pub mod RetiredBoxes
pub mod RoomSteps
pub mod RetiredOnce
