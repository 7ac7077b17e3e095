mod AnswerTexts
pub mod OpeningAnswers
pub mod OneAnswer
mod KeyEntries
mod Numbered
mod Groups
mod KeysOfGames
pub mod FoundGames
mod AllFound
mod ListTexts
mod OpeningTexts
mod GroupTexts
pub mod ListAnswers
pub mod OneOutput
mod ReportLines
pub mod SerialOutputs
pub mod StateLemmas
pub mod WatchAnswers
pub mod WatchLemmas
mod WatchSteps
pub mod WholeOutputs
