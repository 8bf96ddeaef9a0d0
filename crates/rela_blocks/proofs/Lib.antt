pub mod NamedByChecks
pub mod LetterLaws
pub mod PathLetters
pub mod BuiltPaths
pub mod Placed
pub mod ClassSplits
pub mod RowPartitions
