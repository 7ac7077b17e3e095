mod EndLemmas
mod FlatLists
mod NestedLists
mod OutsideLemmas
mod ReadTo
mod ReadingLemmas
mod Shapes
mod ShortNodes
mod StepLemmas
pub mod BeforeLaws
pub mod EndFaults
pub mod Endings
pub mod FaultsHere
pub mod FirstFaults
pub mod LimitLaws
pub mod NodeParents
pub mod OneFault
pub mod Reached
pub mod ReadAscending
pub mod ReadBounds
pub mod ReadOrFault
pub mod ReadParents
pub mod ScanEnds
pub mod Scans
pub mod ScansSpelled
pub mod SpelledNodes
pub mod SpelledScans
pub mod SpellsOne
pub mod Steps
pub mod Traces
pub mod TreeStarts
pub mod ValuePlaces
pub mod Ways
pub mod WithinLimits
