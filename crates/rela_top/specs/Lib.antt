pub mod Delivered
pub mod Operands
pub mod Outcome
