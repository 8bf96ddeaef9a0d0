pub mod Apart
pub mod Letters
pub mod Numbering
pub mod Partition
pub mod Splitting
pub mod WideSets
pub mod Words
