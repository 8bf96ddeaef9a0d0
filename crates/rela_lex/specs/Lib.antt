pub mod Front
pub mod Spells
