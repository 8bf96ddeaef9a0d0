pub mod Prefixes
pub mod Choices
pub mod Graph
pub mod Text
pub mod Snapshot
pub mod Loading
pub mod Steps
pub mod Writing
