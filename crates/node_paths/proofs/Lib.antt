pub mod Ancestors
pub mod MoreParents
pub mod PathLists
pub mod StoredNodes
