mod BlockAnswers
pub mod CauseLemmas
pub mod CountLemmas
pub mod FittingWatches
pub mod ImportReports
mod ReadLemmas
pub mod RunLemmas
pub mod ScriptLemmas
pub mod StatementLemmas
pub mod WordLemmas
