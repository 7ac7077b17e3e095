mod BatchLemmas
pub mod FileLemmas
mod FoundPieces
pub mod FoundSegments
pub mod GivenSegments
pub mod ImportsExist
mod Joined
mod Judges
pub mod Losses
mod LostFiles
pub mod MadeFiles
mod MadePieces
pub mod MadeSegments
pub mod MadeSteps
pub mod NameLemmas
pub mod NamesExist
pub mod OneFinding
mod OneSegment
pub mod OutcomesExist
pub mod ReadFiles
pub mod RoomLemmas
pub mod SegmentLemmas
mod StepLemmas
mod Texts
pub mod Turns
mod WaitingFiles
