pub mod Checks
pub mod Blames
