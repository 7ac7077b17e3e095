mod Appends
mod Closings
pub mod EachWritten
mod Entries
mod EntriesRead
mod GrammarOf
mod InBrackets
mod NodeSpelling
pub mod OneText
mod ReadsBack
mod RootRead
mod Spelling
mod Standing
mod SubtreeEnds
mod ValuesRead
mod Walks
