-- Definitions that contracts of public functions rest on.
pub mod Entries
pub mod Faults
pub mod Files
pub mod Memory
pub mod Real
pub mod Told
pub mod Writers
