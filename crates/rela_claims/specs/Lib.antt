pub mod Claims
pub mod Classes
pub mod Named
pub mod Sizes
pub mod Terms
pub mod Written
