pub mod Values
pub mod Rows
pub mod Text
pub mod Agreement
