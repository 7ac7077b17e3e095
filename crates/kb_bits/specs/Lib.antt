-- Definitions that contracts of public functions rest on.
pub mod Members
-- Definitions of private functions.
pub mod MemberLaws
pub mod WordLaws
pub mod Words
