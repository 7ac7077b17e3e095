-- Definitions that contracts of public functions rest on.
pub mod AuditWords
pub mod Chosen
pub mod Shown
pub mod Guided
pub mod Verdict
pub mod Causes
pub mod Audited
pub mod Laws
-- Definitions of private functions.
pub mod Courses
pub mod Standing
pub mod Asked
pub mod Texts
pub mod Importing
