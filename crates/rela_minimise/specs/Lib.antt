pub mod Cutting
pub mod Classes
pub mod Joining
pub mod Refining
pub mod Stored
