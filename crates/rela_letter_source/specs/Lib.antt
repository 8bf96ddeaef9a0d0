pub mod Growth
pub mod Product
pub mod Sources
pub mod Steps
