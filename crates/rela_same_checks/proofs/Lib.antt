pub mod Tables
pub mod Growing
