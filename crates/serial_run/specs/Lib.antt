-- Definitions that contracts of public functions rest on.
pub mod Causes
pub mod Run
pub mod RunErrors
pub mod Script
pub mod Serial
pub mod Steps
-- Definitions of private functions.
pub mod Block
