pub mod EntryStep
pub mod PartLists
pub mod Prefixes
pub mod ReadyStates
pub mod RuleSteps
