pub mod Alternatives
pub mod Places
pub mod Walks
