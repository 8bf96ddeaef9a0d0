pub mod Found
pub mod Grown
pub mod Lexemes
pub mod PlainRuns
pub mod Standing
mod Turns
mod WholeNumbers
