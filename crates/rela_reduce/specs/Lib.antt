pub mod Apart
pub mod Bits
pub mod Numbered
pub mod Passing
pub mod Simulation
pub mod Stored
