pub mod Holding
pub mod Longest
pub mod Classes
pub mod Leaves
pub mod Inside
pub mod Split
