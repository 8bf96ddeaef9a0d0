pub mod Lang
pub mod Zones
pub mod Verdict
pub mod Terms
pub mod Checked
pub mod Parts
pub mod Settings
