-- Definitions that contracts of public functions rest on.
pub mod Images
pub mod Patterns
pub mod Signatures
