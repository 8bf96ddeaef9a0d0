pub mod Continued
pub mod LeastComplements
pub mod MergedComplements
pub mod MergedLetters
pub mod OtherLetters
pub mod Pairs
pub mod ReducedParts
pub mod SplitLetters
mod SameLists
