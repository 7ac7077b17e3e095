-- Definitions that contracts of public functions rest on.
pub mod Parents
pub mod Paths
-- Definitions of private functions.
pub mod StoredNodes
