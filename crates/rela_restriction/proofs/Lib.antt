pub mod MovedSets
pub mod ActWords
pub mod Covering
pub mod Searching
pub mod MappedMembers
pub mod ActLetters
