pub mod Address
pub mod Fields
pub mod Notation
pub mod Network
pub mod Selects
pub mod Plan
pub mod Written
