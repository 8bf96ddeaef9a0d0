pub mod Exploration
pub mod Finding
pub mod Keeping
pub mod Parting
pub mod Places
pub mod Reachable
