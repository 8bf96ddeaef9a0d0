pub mod Cells
pub mod Nesting
pub mod Splitting
pub mod Cutting
pub mod Halving
pub mod Order
pub mod OneList
