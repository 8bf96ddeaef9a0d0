pub mod Points
pub mod ZoneLaws
