pub mod Deciding
pub mod Judging
pub mod Kept
pub mod Rows
pub mod Shapes
pub mod Sharing
pub mod Writing
