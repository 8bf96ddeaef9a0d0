pub mod Recorded
pub mod Wiring
pub mod Shape
pub mod Renamed
