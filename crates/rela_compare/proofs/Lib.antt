pub mod AcceptedLetters
pub mod Copies
pub mod Differences
pub mod Dropping
pub mod Members
pub mod Results
