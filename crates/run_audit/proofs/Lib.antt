pub mod AnswerLines
pub mod ChosenNumbers
pub mod CleanStates
pub mod FewVersions
pub mod FormLines
pub mod GuidedFound
pub mod GuidedLawful
pub mod LineLists
pub mod OneFindings
pub mod OneGuided
pub mod OtherLines
pub mod OwnCourse
pub mod OwnGuided
pub mod PieceLines
pub mod ReportTexts
pub mod ScriptNames
pub mod ShownFiles
pub mod StepLines
pub mod TailTexts
pub mod TextHeads
pub mod Verdicts
pub mod WrittenLines
mod AmongShown
mod AuditCauses
mod AuditedRecords
mod BaseSteps
mod BlockStates
mod BlockSteps
mod CourseEnds
mod CourseSteps
mod Departures
mod Digits
mod FileSteps
mod FilesFound
mod ImportStates
mod ImportSteps
mod KeptStates
mod MergedParts
mod NamedStates
mod NextSteps
mod OverStates
mod PieceSteps
mod PlaceSteps
mod ReportSteps
mod SearchSteps
mod SeenLines
mod ShownNames
mod SortedNames
mod StatementSteps
mod ToldReports
mod WholeSteps
