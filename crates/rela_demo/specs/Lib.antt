pub mod Names
pub mod Locations
pub mod Layers
pub mod Flows
pub mod Specification
pub mod Input
pub mod Text
pub mod Pieces
