pub mod Distinct
pub mod Numbering
pub mod Parting
pub mod Stamps
pub mod Steps
pub mod Telling
