pub mod CornerLists
pub mod CornerNumbers
pub mod GamesWith
pub mod KeyParts
pub mod JoinedEntries
pub mod NodeNumbers
pub mod Sums
pub mod ToldKeys
