pub mod FormatLaws
pub mod Points
