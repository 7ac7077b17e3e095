pub mod BegunNodes
pub mod HoldingOn
pub mod KeyLists
pub mod OccurrencesOfOne
pub mod SortedKeys
