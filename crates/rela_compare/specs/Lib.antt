pub mod Comparison
pub mod Halves
