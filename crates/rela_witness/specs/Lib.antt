pub mod Finishing
pub mod Labels
pub mod Linked
pub mod Numbered
