-- Definitions that contracts of public functions rest on.
pub mod Contents
-- Definitions of private functions.
pub mod LogRule
pub mod Replicas
