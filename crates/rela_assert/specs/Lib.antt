pub mod Asserted
pub mod AssertReports
