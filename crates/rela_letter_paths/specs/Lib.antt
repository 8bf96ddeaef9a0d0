pub mod Finest
pub mod Letters
